use Rattle.std.proofs.Common.{◌∙◌, List, reverse, ap}
use Rattle.std.specs.List.{list_any}
use Rattle.std.proofs.lemmas.List.Sorted.{IsPermutation-reverse, list_any-IsPermutation}
use Rattle.jl_vtypes.specs.declared.item.Item.{Item}
use Rattle.jl_vtypes.specs.Assignability.{is_same}
use Rattle.jl_verify.specs.Frames.{Frame}
use Rattle.jl_verify.proofs.type_frame.TypeFrame.has_on_stack.Goals as goal

pub returns : goal.returns
returns c =
    let xs : List Item = c.self.inside.stack.items in
    c.is_among.ensures
    ∙ ap (λ (ys : List Item). list_any (is_same c.args.item.now) ys) c.deref.ensures.value
    ∙ list_any-IsPermutation (is_same c.args.item.now) xs (reverse xs) (IsPermutation-reverse xs)
    ∙ ap (λ (f : Frame). list_any (is_same c.args.item.now) f.stack) c.self.view_is

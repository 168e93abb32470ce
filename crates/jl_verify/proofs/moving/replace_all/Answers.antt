use Rattle.std.proofs.Common.{◌≡◌, ◌∙◌, List, map, reverse, ap, ap₂}
use Rattle.jl_vtypes.specs.declared.item.Item.{Item}
use Rattle.jl_verify.specs.Frames.{Frame}
use Rattle.jl_verify.specs.Rows.{in_place_of, replaced}
use Rattle.jl_verify.proofs.StoredLists.{map_back}
use Rattle.jl_verify.proofs.moving.replace_all.Goals as goal

pub returns : goal.returns
returns c =
    let f : Item → Item = in_place_of c.args.old.now c.args.new.now in
    let stack : reverse c.replace-2.new.items.items ≡ map f (reverse c.f.inside.stack.items) = ap reverse c.in_ok-replace-2.ensures ∙ map_back f c.f.inside.stack.items in
    ap₂ (λ (ls st : List Item). let g : Frame = record { locals = ls; stack = st; marked = c.f.inside.marked } in g) c.in_ok-replace.ensures stack
    ∙ ap (λ (g : Frame). replaced c.args.old.now c.args.new.now g) c.f.view_is

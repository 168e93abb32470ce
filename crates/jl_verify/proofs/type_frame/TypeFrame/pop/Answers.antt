use Rattle.std.proofs.Common.{◌≡◌, ◌∙◌, List, reverse, drop, ap, arith}
use Rattle.jl_vtypes.specs.declared.item.Item.{Item}
use Rattle.jl_verify.specs.Frames.{Frame}
use Rattle.jl_verify.proofs.Stacks.{left_of}
use Rattle.jl_verify.proofs.type_frame.TypeFrame.pop.Goals as goal

pub returns : goal.returns
returns c =
    let s : Frame = c.args.self.now in
    let as_stack : reverse c.truncate.new.self.items ≡ drop c.args.count s.stack =
    ap reverse c.truncate.ensures.items
    ∙ left_of c.self.inside.stack.items c.args.count c.saturating_sub-left.result (omega (arith, c.saturating_sub-left.ensures, c.len.ensures, c.self.inside.stack.ok.0))
    ∙ ap (λ (f : Frame). drop c.args.count f.stack) c.self.view_is in
    ap (λ (xs : List Item). let f : Frame = record { locals = c.self.inside.locals.items; stack = xs; marked = c.self.inside.marked } in f) as_stack
    ∙ ap (λ (f : Frame). let g : Frame = record { locals = f.locals; stack = drop c.args.count s.stack; marked = f.marked } in g) c.self.view_is

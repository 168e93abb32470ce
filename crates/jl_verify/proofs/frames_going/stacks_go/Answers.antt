use Rattle.std.proofs.Common.{◌≡◌, ◌∙◌, reverse, sym, ap}
use Rattle.std.proofs.lemmas.List.{reverse-reverse}
use Rattle.jl_verify.specs.Frames.{Frame}
use Rattle.jl_verify.proofs.frames_going.stacks_go.Goals as goal

pub returns : goal.returns
returns g c =
    let from_is : c.deref.result.now ≡ reverse c.args.from.now.stack = c.deref.ensures.value ∙ sym (reverse-reverse c.from.inside.stack.items) ∙ ap (λ (f : Frame). reverse f.stack) c.from.view_is in
    let to_is : c.deref-2.result.now ≡ reverse c.args.to.now.stack = c.deref-2.ensures.value ∙ sym (reverse-reverse c.to.inside.stack.items) ∙ ap (λ (f : Frame). reverse f.stack) c.to.view_is in
    rw (← from_is, ← to_is) c.items_go.ensures

use Rattle.std.proofs.Common.{◌≡◌, ◌∙◌, reverse, sym, ap}
use Rattle.std.proofs.lemmas.List.{reverse-reverse}
use Rattle.jl_verify.specs.Frames.{Frame}
use Rattle.jl_verify.proofs.handling.only_item_goes.Goals as goal

pub returns : goal.returns
returns g c =
    let to_is : c.deref.result.now ≡ reverse c.args.to.now.stack = c.deref.ensures.value ∙ sym (reverse-reverse c.to.inside.stack.items) ∙ ap (λ (f : Frame). reverse f.stack) c.to.view_is in
    rw (← c.from_ref.ensures.value, ← to_is) c.items_go.ensures

use Rattle.std.proofs.Common.{◌∙◌, ◌∷◌, [], ap}
use Rattle.jl_verify.specs.Frames.{Frame, stacked}
use Rattle.jl_verify.specs.Rows.{onto}
use Rattle.jl_verify.proofs.StoredLists.{onto_more}
use Rattle.jl_verify.proofs.moving.put_items.Goals as goal

pub loop-item-preserved : goal.loop-item-preserved
loop-item-preserved c =
    c.in_ok-push.ensures
    ∙ ap (λ (f : Frame). onto (stacked (c.in-Some.item ∷ [])) f) c.loop-item.invariant
    ∙ onto_more c.args.f c.loop-item.yielded c.in-Some.item

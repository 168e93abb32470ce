use Rattle.jl_config.proofs.Decided.{copied_step}
use Rattle.jl_config.proofs.resolution.copies_at.Goals as goal

pub loop-place-preserved : goal.loop-place-preserved
loop-place-preserved c =
    copied_step c.args.scene.now c.args.places.now c.loop-place.place-index c.loop-place.copies.items c.push_copy.new.copies.items c.loop-place-test.true c.loop-place.invariant c.in_ok-push_copy.ensures

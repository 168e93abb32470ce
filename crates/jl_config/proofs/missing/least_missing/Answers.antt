use Rattle.std.proofs.Common.{option_map, refl}
use Rattle.jl_config.specs.MissingNames.{lack_of}
use Rattle.jl_config.proofs.MissingLeasts.{least_more}
use Rattle.jl_config.proofs.missing.least_missing.Goals as goal

pub loop-place-preserved : goal.loop-place-preserved
loop-place-preserved c =
    least_more c.args.scene.now c.args.places.now c.loop-place.place-index _ (option_map lack_of c.loop-place.least) (option_map lack_of c.in_ok-least-2.least) c.loop-place-test.true refl c.loop-place.invariant c.in_ok-least-2.ensures

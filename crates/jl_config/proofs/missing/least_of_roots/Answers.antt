use Rattle.std.proofs.Common.{None, option_map}
use Rattle.jl_config.specs.MissingNames.{lack_of, root_missing}
use Rattle.jl_config.proofs.MissingLeasts.{least_step}
use Rattle.jl_config.proofs.missing.least_of_roots.Goals as goal

pub loop-name-preserved : goal.loop-name-preserved
loop-name-preserved c =
    least_step (root_missing c.args.scene.now) c.args.roots.now c.loop-name.name-index c.name-item.result None (option_map lack_of c.loop-name.least) _ _ c.loop-name-test.true c.name-item.is c.loop-name.invariant c.in_ok-missing_root.ensures c.lesser_of-least.ensures

use Rattle.std.proofs.Common.{option_map}
use Rattle.jl_config.specs.MissingNames.{lack_of, entry_missing}
use Rattle.jl_config.proofs.MissingLeasts.{least_step}
use Rattle.jl_config.proofs.missing.least_of_entries.Goals as goal

pub loop-entry-preserved : goal.loop-entry-preserved
loop-entry-preserved c =
    least_step (entry_missing c.args.scene.now c.args.by.now) c.args.entries.now c.loop-entry.entry-index c.entry-item.result (option_map lack_of c.args.earlier) (option_map lack_of c.loop-entry.least) _ _ c.loop-entry-test.true c.entry-item.is c.loop-entry.invariant c.in_ok-missing_entry.ensures c.lesser_of-least.ensures

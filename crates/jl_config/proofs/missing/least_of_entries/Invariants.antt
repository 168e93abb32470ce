use Rattle.std.proofs.Common.{◌≡◌, take, option_map}
use Rattle.jl_config.specs.MissingNames.{lack_of, least_from, missing_entries}
use Rattle.jl_config.proofs.missing.least_of_entries.Given as goal

abbrev pub invariant-loop-entry : goal.invariant-loop-entry
invariant-loop-entry l = option_map lack_of l.least ≡ least_from (option_map lack_of l.fn.earlier) (missing_entries l.scene l.by (take l.entry-index l.entries))

use Rattle.std.proofs.Common.{◌≡◌, take, None, option_map, filter_map}
use Rattle.jl_config.specs.MissingNames.{lack_of, least_from, root_missing}
use Rattle.jl_config.proofs.missing.least_of_roots.Given as goal

abbrev pub invariant-loop-name : goal.invariant-loop-name
invariant-loop-name l = option_map lack_of l.least ≡ least_from None (filter_map (root_missing l.scene) (take l.name-index l.roots))

use Rattle.std.proofs.Common.{◌≡◌, ◌++◌, take, None, option_map, filter_map, flat_map}
use Rattle.jl_config.specs.MissingNames.{lack_of, least_from, root_missing, missing_at}
use Rattle.jl_config.proofs.missing.least_missing.Given as goal

abbrev pub invariant-loop-place : goal.invariant-loop-place
invariant-loop-place l = option_map lack_of l.least ≡ least_from None (filter_map (root_missing l.scene) l.scene.roots ++ flat_map (missing_at l.scene) (take l.place-index l.places))

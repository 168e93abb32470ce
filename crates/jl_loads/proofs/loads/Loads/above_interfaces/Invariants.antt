use Rattle.std.proofs.Common.{◌≡◌, take}
use Rattle.jl_loads.specs.Ranks.{with_above}
use Rattle.jl_loads.specs.Worlds.{each_once}
use Rattle.jl_loads.proofs.loads.Loads.above_interfaces.Given as goal

abbrev pub invariant-loop-interface : goal.invariant-loop-interface
invariant-loop-interface l = l.above.items ≡ each_once (with_above l.self (take l.interface-index l.interfaces))

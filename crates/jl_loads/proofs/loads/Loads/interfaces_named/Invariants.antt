use Rattle.std.proofs.Common.{◌≡◌, map, take}
use Rattle.jl_loads.specs.Beginning.{class_named}
use Rattle.jl_loads.proofs.loads.Loads.interfaces_named.Given as goal

abbrev pub invariant-loop-name : goal.invariant-loop-name
invariant-loop-name l = l.interfaces.items ≡ map (class_named l.self l.loader) (take l.name-index l.names)

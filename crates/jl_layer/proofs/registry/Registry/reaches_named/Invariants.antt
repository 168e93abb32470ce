use Rattle.std.proofs.Common.{◌≡◌, take, map}
use Rattle.jl_layer.specs.Meaning.{reach_named}
use Rattle.jl_layer.proofs.registry.Registry.reaches_named.Given as goal

abbrev pub invariant-loop-name : goal.invariant-loop-name
invariant-loop-name l = l.reaches.items ≡ map (reach_named l.self l.l) (take l.name-index l.names)

use Rattle.std.proofs.Common.{◌≡◌, ◌++◌, take, map, flat_map}
use Rattle.jl_layer.specs.Layers.{layer_at}
use Rattle.jl_layer.specs.Meaning.{stated_read, stated_in}
use Rattle.jl_layer.proofs.registry.Registry.statements_of.Given as goal

abbrev pub invariant-loop-m : goal.invariant-loop-m
invariant-loop-m l = l.statements.items ≡ map stated_read l.reads ++ flat_map (stated_in l.self l.l) (take l.m-index (layer_at l.self l.l).modules)

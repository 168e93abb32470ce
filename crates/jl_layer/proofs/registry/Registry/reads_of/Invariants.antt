use Rattle.std.proofs.Common.{◌≡◌, take, filter_map}
use Rattle.jl_layer.specs.Layers.{configuration_at}
use Rattle.jl_layer.specs.Meaning.{read_pair}
use Rattle.jl_layer.proofs.registry.Registry.reads_of.Given as goal

abbrev pub invariant-loop-read : goal.invariant-loop-read
invariant-loop-read l = l.pairs.items ≡ filter_map (read_pair l.self l.l) (take l.read-index (configuration_at l.self l.l).reads)

use Rattle.std.proofs.Common.{◌≡◌, drop}
use Rattle.jl_layer.specs.Layers.{first_given, above}
use Rattle.jl_layer.specs.Meaning.{is_layer_of}
use Rattle.jl_layer.specs.Orderly.{if_passes}
use Rattle.jl_layer.proofs.registry.Registry.layer_along.Given as goal

abbrev pub invariant-loop-layer : goal.invariant-loop-layer
invariant-loop-layer l = first_given (if_passes (is_layer_of l.self l.config)) (above l.self (drop l.layer-index l.layers)) ≡ first_given (if_passes (is_layer_of l.self l.config)) (above l.self l.layers)

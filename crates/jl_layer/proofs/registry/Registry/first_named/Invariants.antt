use Rattle.std.proofs.Common.{◌≡◌, drop}
use Rattle.jl_layer.specs.Layers.{named_in, first_given}
use Rattle.jl_layer.proofs.registry.Registry.first_named.Given as goal

abbrev pub invariant-loop-layer : goal.invariant-loop-layer
invariant-loop-layer l = first_given (λ k. named_in l.self k l.name) (drop l.layer-index l.layers) ≡ first_given (λ k. named_in l.self k l.name) l.layers

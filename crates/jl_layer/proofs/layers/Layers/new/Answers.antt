use Rattle.std.proofs.Common.{ap}
use Rattle.jl_layer.specs.Layers.{State}
use Rattle.jl_layer.proofs.Calls.{nothing_sound}
use Rattle.jl_layer.proofs.layers.Layers.new.Goals as goal

pub invariant_of-result : goal.invariant_of-result
invariant_of-result c =
    let e = c.new.ensures in
    nothing_sound c.new.result (ap (λ (s : State). s.configurations) e) (ap (λ (s : State). s.layers) e) (ap (λ (s : State). s.modules) e) (ap (λ (s : State). s.loaders.loaders) e) (ap (λ (s : State). s.loaders.base) e)
    (ap (λ (s : State). s.facts.modules) e)

use Rattle.std.proofs.Common.{◌≡◌, ◌<◌, ℕ, get_or}
use Rattle.jl_layer.specs.Deciding.{config_at}
use Rattle.jl_layer.proofs.registry.Registry.are_parents.Given as goal

abbrev pub invariant-loop-at : goal.invariant-loop-at
invariant-loop-at l = (k : ℕ) → k < l.at → config_at l.self l.parents k ≡ (get_or l.wanted k (record { 0 = 0 })).0

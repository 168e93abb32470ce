use Rattle.std.proofs.Common.{◌≡◌, take}
use Rattle.jl_layer.specs.Claims.{own_claims}
use Rattle.jl_layer.proofs.registry.Registry.own_claims.Given as goal

abbrev pub invariant-loop-at : goal.invariant-loop-at
invariant-loop-at l = l.claims.items ≡ own_claims 0 (take l.at l.module-items)

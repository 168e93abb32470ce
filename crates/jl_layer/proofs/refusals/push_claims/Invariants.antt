use Rattle.std.proofs.Common.{◌≡◌, ◌++◌, take}
use Rattle.jl_layer.specs.Claims.{claims_of}
use Rattle.jl_layer.proofs.refusals.push_claims.Given as goal

abbrev pub invariant-loop-name : goal.invariant-loop-name
invariant-loop-name l = l.claims.items ≡ l.fn.claims.items ++ claims_of l.owner l.given.declaration.name (take l.name-index l.given.declaration.packages)

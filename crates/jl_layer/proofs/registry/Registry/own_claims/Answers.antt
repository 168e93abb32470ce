use Rattle.jl_layer.proofs.OwnClaims.{own_claims_step}
use Rattle.jl_layer.proofs.registry.Registry.own_claims.Goals as goal

pub loop-at-preserved : goal.loop-at-preserved
loop-at-preserved c =
    own_claims_step c.observed_in-module-items.result.now c.loop-at.at c.module-item.result c.loop-at.claims.items c.push_claims.new.claims.items c.loop-at-test.true c.module-item.is c.loop-at.invariant c.in_ok-push_claims.ensures

use Rattle.std.proofs.Common.{rules, not}
use Rattle.std.proofs.lemmas.Fn.{filter_same}
use Rattle.jl_layer.specs.declared.claims.Claim.{Claim}
use Rattle.jl_layer.specs.Claims.{is_claimed}
use Rattle.jl_layer.proofs.claims.free_of.Goals as goal

pub returns : goal.returns
returns c = filter_same _ (λ (x : Claim). not (is_claimed c.args.others.now x.«package»)) _ (λ x b f' k. search rules) _ _ c.retain.ensures.filtered

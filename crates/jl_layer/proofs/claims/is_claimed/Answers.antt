use Rattle.std.proofs.Common.{◌∙◌, rules}
use Rattle.std.proofs.lemmas.Fn.{always_returns_same}
use Rattle.jl_logic.specs.Order.{name_cmp}
use Rattle.jl_layer.specs.declared.claims.Claim.{Claim}
use Rattle.jl_layer.proofs.ClaimSearch.{claimed_searched}
use Rattle.jl_layer.proofs.claims.is_claimed.Goals as goal

pub returns : goal.returns
returns c =
    c.is_ok.ensures.value
    ∙ claimed_searched c.args.claims.now c.args.name.now c.binary_search_by.result c.requires c.binary_search_by.ensures.bound
    (c.binary_search_by.ensures.position (λ (x : Claim). name_cmp x.«package» c.args.name.now) (always_returns_same _ _ _ (λ a r q k. search rules)))

use Rattle.std.proofs.Common.{◌≡◌, ◌∙◌, ap, ap₂, sym, subst, Some, Option, MatchOption}
use Rattle.std.proofs.lemmas.Option.{slice_get-get_or, same_Some}
use Rattle.jl_logic.specs.Order.{IsLeast}
use Rattle.jl_layer.specs.declared.claims.Claim.{Claim}
use Rattle.jl_layer.specs.declared.claims.Clash.{Clash}
use Rattle.jl_layer.specs.Claims.{IsClashOf, clash_cmp, clash_of}
use Rattle.jl_layer.proofs.Clashes.{clash_least}
use Rattle.jl_layer.proofs.claims.least_clash.Goals as goal

pub returns-in_ok-clash_of-in-Some : goal.returns-in_ok-clash_of-in-Some
returns-in_ok-clash_of-in-Some c =
    let claims = c.args.claims.now in
    let a : Claim = c.index-claims-first.result in
    let b : Claim = c.index-claims-other.result in
    let two = c.in-Some.ensures.first_two in
    let within = c.in-Some.ensures.within in
    let one_is : two.one ≡ a = same_Some two.one a (sym two.one_there ∙ slice_get-get_or claims c.in-Some.first a within.0 ∙ ap Some (sym c.index-claims-first.is)) in
    let two_is : two.two ≡ b = same_Some two.two b (sym two.two_there ∙ slice_get-get_or claims c.in-Some.other b within.1 ∙ ap Some (sym c.index-claims-other.is)) in
    let whole : IsLeast clash_cmp (IsClashOf claims) (clash_of (two.one, two.two)) =
    subst (λ (o : Option (Claim × Claim)). MatchOption o ((k : Clash) → IsClashOf claims k → ⊥) (λ p. IsLeast clash_cmp (IsClashOf claims) (clash_of p))) two.first_two (clash_least claims c.requires) in
    subst (IsLeast clash_cmp (IsClashOf claims)) (ap₂ (λ (x y : Claim). clash_of (x, y)) one_is two_is ∙ sym c.in_ok-clash_of-in-Some.ensures) whole

pub returns-in-None : goal.returns-in-None
returns-in-None c =
    let claims = c.args.claims.now in
    subst (λ (o : Option (Claim × Claim)). MatchOption o ((k : Clash) → IsClashOf claims k → ⊥) (λ p. IsLeast clash_cmp (IsClashOf claims) (clash_of p))) c.in-None.ensures.first_two (clash_least claims c.requires)

-- Modules of one layer that overlap are those whose claims clash (`java.lang.LayerInstantiationException`).
use Rattle.std.proofs.Common.{◌≡◌, ◌≢◌, ◌+◌, ℕ, zero, suc, List, [], ◌∷◌, slice_get, Some, inl, inr, refl, sym, ◌∙◌, ap, subst, add-zero, arith}
use Rattle.std.specs.Prelude.{Contains}
use Rattle.std.proofs.lemmas.List.Elements.{Contains-append_cases, Contains-append_left, Contains-append_right}
use Rattle.std.proofs.lemmas.Option.{none-some, same_Some}
use Rattle.jl_logic.specs.Order.{RisesBy}
use Rattle.jl_logic.proofs.Rising.{contains_nothing}
use Rattle.jl_prim.specs.declared.declaration.Observed.{Observed}
use Rattle.jl_config.specs.Located.{name_of}
use Rattle.jl_config.specs.Orders.{module_cmp}
use Rattle.jl_layer.specs.declared.claims.Claim.{Claim}
use Rattle.jl_layer.specs.declared.claims.Clash.{Clash}
use Rattle.jl_layer.specs.Refusals.{Holds}
use Rattle.jl_layer.specs.Claims.{IsClashOf, claims_by, own_claims}
use Rattle.jl_layer.proofs.Listed.{place_of, at_place, map_into, map_from}
use Rattle.jl_layer.proofs.KeptBehind.{one_place}

-- a claim of a module that has the package
abbrev pub claim_for : List ℕ → List ℕ → ℕ → Claim
claim_for p name owner = record { «package» = p; name = name; owner = owner }

-- the claim is that of the module at a place
pub record IsOwnClaim (n : ℕ) (os : List Observed) (x : Claim) : Type 0 where
  pub place : ℕ
  pub observed : Observed
  pub there : slice_get os place ≡ Some observed
  pub owner : x.owner ≡ n + place
  pub name : x.name ≡ name_of observed
  pub holds : Holds observed x.«package»

pub own_claim : (n : ℕ) (os : List Observed) (x : Claim) → Contains (own_claims n os) x → IsOwnClaim n os x
own_claim n [] x c = contains_nothing x c
own_claim n (o ∷ os) x c = elim (Contains-append_cases (claims_by n o) (own_claims (n + 1) os) x c) [ inl h ↦ here h | inr h ↦ later (own_claim (n + 1) os x h) ]
  where
    here : Contains (claims_by n o) x → IsOwnClaim n (o ∷ os) x
    here h =
        let r = map_from (λ (p : List ℕ). claim_for p (name_of o) n) o.declaration.packages x h in
        record {
          place = 0;
          observed = o;
          there = refl;
          owner = ap (λ (k : Claim). k.owner) (sym r.2) ∙ sym (add-zero n);
          name = ap (λ (k : Claim). k.name) (sym r.2);
          holds = subst (Holds o) (ap (λ (k : Claim). k.«package») r.2) r.1;
        }

    later : IsOwnClaim (n + 1) os x → IsOwnClaim n (o ∷ os) x
    later h = record { place = suc h.place; observed = h.observed; there = h.there; owner = omega (arith, h.owner); name = h.name; holds = h.holds }

pub own_claimed : (n : ℕ) (os : List Observed) (i : ℕ) (o : Observed) (p : List ℕ) → slice_get os i ≡ Some o → Holds o p → Contains (own_claims n os) (claim_for p (name_of o) (n + i))
own_claimed n [] i o p e h = absurd (none-some o e)
own_claimed n (b ∷ os) zero o p e h =
    let same : b ≡ o = same_Some b o e in
    let c : Contains (claims_by n b) (claim_for p (name_of b) n) = map_into (λ (r : List ℕ). claim_for r (name_of b) n) b.declaration.packages p (subst (λ (k : Observed). Holds k p) (sym same) h) in
    subst (λ (k : Observed). Contains (own_claims n (b ∷ os)) (claim_for p (name_of k) (n + 0))) same
    (subst (λ (k : ℕ). Contains (own_claims n (b ∷ os)) (claim_for p (name_of b) k)) (sym (add-zero n)) (Contains-append_left (claims_by n b) (own_claims (n + 1) os) (claim_for p (name_of b) n) c))
own_claimed n (b ∷ os) (suc i) o p e h =
    let next : n + 1 + i ≡ n + suc i = omega arith in
    subst (λ (k : ℕ). Contains (own_claims n (b ∷ os)) (claim_for p (name_of o) k)) next
    (Contains-append_right (claims_by n b) (own_claims (n + 1) os) (claim_for p (name_of o) (n + 1 + i)) (own_claimed (n + 1) os i o p e h))

-- ---- overlaps

-- two of the modules have the package
abbrev pub Overlap : List Observed → List ℕ → List ℕ → List ℕ → Type 0
Overlap os p one other = (a : Observed) × (b : Observed) × Contains os a × Contains os b × (name_of a ≡ one) × (name_of b ≡ other) × (one ≢ other) × Holds a p × Holds b p

pub overlap_of : (os : List Observed) (c : Clash) → RisesBy module_cmp os → IsClashOf (own_claims 0 os) c → Overlap os c.«package» c.one c.other
overlap_of os c up (x, y, cx, cy, px, py, nx, ny, apart) =
    let a = own_claim 0 os x cx in
    let b = own_claim 0 os y cy in
    let differ : c.one ≢ c.other =
    λ e.
    let i : a.place ≡ b.place = one_place os a.place b.place a.observed b.observed up a.there b.there (sym a.name ∙ nx ∙ e ∙ sym ny ∙ b.name) in
    apart (let o : x.owner ≡ y.owner = omega (arith, a.owner, b.owner) in o) in (
      a.observed,
      b.observed,
      at_place os a.place a.observed a.there,
      at_place os b.place b.observed b.there,
      sym a.name ∙ nx,
      sym b.name ∙ ny,
      differ,
      subst (Holds a.observed) px a.holds,
      subst (Holds b.observed) py b.holds,
    )

pub overlap_from : (os : List Observed) (c : Clash) → Overlap os c.«package» c.one c.other → IsClashOf (own_claims 0 os) c
overlap_from os c (a, b, ca, cb, na, nb, differ, ha, hb) =
    let i = place_of os a ca in
    let j = place_of os b cb in
    let apart : (0 + i.0 ≡ 0 + j.0) → ⊥ =
    λ e.
    let k : i.0 ≡ j.0 = omega arith in
    let same : a ≡ b = same_Some a b (sym i.1 ∙ ap (slice_get os) k ∙ j.1) in
    differ (sym na ∙ ap name_of same ∙ nb) in (
      claim_for c.«package» (name_of a) (0 + i.0),
      claim_for c.«package» (name_of b) (0 + j.0),
      own_claimed 0 os i.0 a c.«package» i.1 ha,
      own_claimed 0 os j.0 b c.«package» j.1 hb,
      refl,
      refl,
      na,
      nb,
      apart,
    )

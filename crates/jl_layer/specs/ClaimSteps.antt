-- How two owners of a package are looked for in claims, step by step (`java.lang.LayerInstantiationException`). No public clause cites these.
use Rattle.std.specs.Prelude.{◌≡◌, ℕ, List, [], Option, Some, Bool, not, ◌&&◌, ◌==◌, slice_get, if◌then◌else◌}
use Rattle.std.specs.Option.{option_map_or}
use Rattle.std.specs.List.{filter}
use Rattle.jl_logic.specs.Order.{is_text}
use Rattle.jl_layer.specs.declared.claims.Claim.{Claim}
use Rattle.jl_layer.specs.Claims.{clash_in, is_claimed}

-- two claims on one package have two owners
abbrev pub is_clash : Claim → Claim → Bool
is_clash first other = is_text other.«package» first.«package» && not (other.owner == first.owner)

-- the package of a claim, where there is one
abbrev pub package_in : Option Claim → List ℕ
package_in o = option_map_or (λ (c : Claim). c.«package») o []

-- the first place of the package at hand, at a further place
abbrev pub next_first : List Claim → ℕ → ℕ → ℕ
next_first claims first at = if is_text (package_in (slice_get claims at)) (package_in (slice_get claims first)) then first else at

-- the claims at the two places are the first that clash
pub record AreFirstTwo (claims : List Claim) (first other : ℕ) : Type 0 where
  pub one : Claim
  pub two : Claim
  pub one_there : slice_get claims first ≡ Some one
  pub two_there : slice_get claims other ≡ Some two
  pub first_two : clash_in claims ≡ Some (one, two)

-- the claims on packages that none of these claims
abbrev pub without : List Claim → List Claim → List Claim
without others claims = filter (λ (c : Claim). not (is_claimed others c.«package»)) claims

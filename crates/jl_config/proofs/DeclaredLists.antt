-- What modules declare, as lists of exactly these.
use Rattle.std.proofs.Common.{◌≡◌, ◌⊎◌, ℕ, List, inl, ap, Contains, Option, Some, None, IsTrue}
use Rattle.jl_prim.specs.declared.numbers.ConfigId.{ConfigId}
use Rattle.jl_prim.specs.declared.declaration.Requires.{Requires}
use Rattle.jl_prim.specs.declared.declaration.Provides.{Provides}
use Rattle.jl_prim.specs.declared.declaration.Grant.{Grant}
use Rattle.jl_config.specs.declared.candidate.Candidate.{Candidate}
use Rattle.jl_config.specs.Members.{is_followed, Needs, Uses, IsProvidedBy}
use Rattle.jl_config.specs.Refusals.{ReachesBy, Exports}
use Rattle.jl_config.proofs.Listings.{Listing, Decided, decided_same, decided_true, decided_number, decided_contains, listing_each, listing_same, listing_either, listing_if, listing_map, listing_items}

pub decided_in : (P : List ℕ → Type 0) → Listing P → (name : List ℕ) → Decided (P name)
decided_in P l name = decided_same (Contains l.items name) (P name) (l.only name) (l.all name) (decided_contains l.items name)

pub decided_reaches : (to : Option (List (List ℕ))) (reader : List ℕ) → Decided (ReachesBy to reader)
decided_reaches None reader = inl tt
decided_reaches (Some names) reader = decided_contains names reader

pub needed : (s : Candidate) → Listing (Needs s)
needed s =
    listing_same (λ name. (r : Requires) × Contains s.observed.declaration.required r × (IsTrue (is_followed r) × (r.name ≡ name))) (Needs s)
    (λ name k. (k.0, k.1, k.2.0, k.2.1)) (λ name k. (k.0, k.1, (k.2, k.3)))
    (listing_each (λ (r : Requires) (name : List ℕ). IsTrue (is_followed r) × (r.name ≡ name)) (Contains s.observed.declaration.required) (listing_items s.observed.declaration.required)
    (λ r c. listing_if (IsTrue (is_followed r)) r.name (decided_true (is_followed r))))

pub exported : (s : Candidate) (reader : List ℕ) → Listing (λ p. Exports s p reader)
exported s reader =
    listing_same (λ p. (g : Grant) × Contains s.observed.declaration.exports g × (ReachesBy g.to reader × (g.«package» ≡ p))) (λ p. Exports s p reader)
    (λ p k. (k.0, k.1, k.2.1, k.2.0)) (λ p k. (k.0, k.1, (k.3, k.2)))
    (listing_each (λ (g : Grant) (p : List ℕ). ReachesBy g.to reader × (g.«package» ≡ p)) (Contains s.observed.declaration.exports) (listing_items s.observed.declaration.exports)
    (λ g c. listing_if (ReachesBy g.to reader) g.«package» (decided_reaches g.to reader)))

pub services : (s : Candidate) → Listing (λ service. Uses s service ⊎ IsProvidedBy s service)
services s =
    listing_either (Uses s) (IsProvidedBy s) (listing_items s.observed.declaration.uses)
    (listing_map (Contains s.observed.declaration.provides) (λ (p : Provides). p.service) (listing_items s.observed.declaration.provides))

pub decided_config : (a b : ConfigId) → Decided (a ≡ b)
decided_config a b = decided_same (a.0 ≡ b.0) (a ≡ b) (λ e i. record { 0 = e i }) (λ e. ap (λ (c : ConfigId). c.0) e) (decided_number a.0 b.0)

-- Modules that claim a package, and two owners of one (`java.lang.LayerInstantiationException`): how overlaps and splits are looked for. No public clause cites these.
use Rattle.std.specs.Prelude.{◌≡◌, ◌≢◌, ℕ, ◌+◌, List, [], ◌∷◌, ◌++◌, map, Option, None, Some, Bool, not, ◌==◌, Contains, if◌then◌else◌}
use Rattle.std.specs.Option.{option_and_then}
use Rattle.std.specs.List.{filter, flat_map, list_any}
use Rattle.std.specs.Ordering.{ordering_then, nat_cmp}
use Rattle.std.specs.declared.cmp.Ordering.{Ordering}
use Rattle.std.specs.Cmp.Lexicographic.{slice_cmp}
use Rattle.jl_logic.specs.Order.{is_text, name_cmp}
use Rattle.jl_prim.specs.declared.declaration.Observed.{Observed}
use Rattle.jl_config.specs.declared.configuration.Read.{Read}
use Rattle.jl_config.specs.Located.{configuration_of, is_numbered, name_of}
use Rattle.jl_layer.specs.declared.claims.Claim.{Claim}
use Rattle.jl_layer.specs.declared.claims.Clash.{Clash}
use Rattle.jl_layer.specs.declared.layer.Member.{Member}
use Rattle.jl_layer.specs.Layers.{State, member_of}
use Rattle.jl_layer.specs.Meaning.{meant_above, exported_to}
use Rattle.jl_layer.specs.Defining.{Asked, asked_modules}

-- claims by the package, the module and the owner
abbrev pub claim_cmp : Claim → Claim → Ordering
claim_cmp a b = ordering_then (name_cmp a.«package» b.«package») (ordering_then (name_cmp a.name b.name) (nat_cmp a.owner b.owner))

-- Two claims on one package, by these modules, have two owners.
abbrev pub IsClashOf : List Claim → Clash → Type 0
IsClashOf claims c = (x : Claim) × (y : Claim) × Contains claims x × Contains claims y × (x.«package» ≡ c.«package») × (y.«package» ≡ c.«package»)
    × (x.name ≡ c.one) × (y.name ≡ c.other) × (x.owner ≢ y.owner)

-- clashes by their fields
abbrev pub clash_cmp : Clash → Clash → Ordering
clash_cmp c d = slice_cmp name_cmp (c.«package» ∷ c.one ∷ c.other ∷ []) (d.«package» ∷ d.one ∷ d.other ∷ [])

-- the first two of claims in order that clash, where the first of the package at hand is known
abbrev pub clash_from : Claim → List Claim → Option (Claim × Claim)
clash_from first [] = None
clash_from first (x ∷ xs) = if is_text x.«package» first.«package» then (if x.owner == first.owner then clash_from first xs else Some (first, x)) else clash_from x xs

-- the first two of claims in order that clash
abbrev pub clash_in : List Claim → Option (Claim × Claim)
clash_in [] = None
clash_in (x ∷ xs) = clash_from x xs

-- the clash of two claims
abbrev pub clash_of : Claim × Claim → Clash
clash_of p = record { «package» = p.0.«package»; one = p.0.name; other = p.1.name }

-- packages of a module with a name, for an owner
abbrev pub claims_of : ℕ → List ℕ → List (List ℕ) → List Claim
claims_of n name packages = map (λ (p : List ℕ). record { «package» = p; name = name; owner = n }) packages

-- what modules claim, each as the owner with its place
abbrev pub claims_by : ℕ → Observed → List Claim
claims_by n o = claims_of n (name_of o) o.declaration.packages

abbrev pub own_claims : ℕ → List Observed → List Claim
own_claims n [] = []
own_claims n (o ∷ os) = claims_by n o ++ own_claims (n + 1) os

-- packages of a module, with its loader as the owner
abbrev pub taken_from : Member → List (List ℕ) → List Claim
taken_from x packages = map (λ (p : List ℕ). record { «package» = p; name = x.observed.declaration.name; owner = x.loader.0 }) packages

-- what a module exports to a reader
abbrev pub taken_by : List ℕ → Option Member → List Claim
taken_by reader None = []
taken_by reader (Some x) = taken_from x (exported_to x.observed.declaration reader)

-- what a read takes from above the layer
abbrev pub taken_of : State → Asked → Read → List Claim
taken_of s q r = if is_numbered r.config q.config then [] else taken_by r.reader (option_and_then (member_of s) (meant_above s q.parents r.config r.name))

-- what the layer's modules take from above it
abbrev pub taken_claims : State → Asked → List Claim
taken_claims s q = flat_map (taken_of s q) (configuration_of s.configurations q.config).reads

-- the package is claimed
abbrev pub is_claimed : List Claim → List ℕ → Bool
is_claimed claims p = list_any (λ (c : Claim). is_text c.«package» p) claims

-- what is taken, without the packages that the layer's own modules have
abbrev pub free_claims : State → Asked → List Claim
free_claims s q = filter (λ (c : Claim). not (is_claimed (own_claims 0 (asked_modules s q)) c.«package»)) (taken_claims s q)

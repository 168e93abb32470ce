-- The refusals of a layer are decided in their order (`ModuleLayer.defineModules`).
use Rattle.std.proofs.Common.{◌≡◌, ◌≢◌, ◌⊎◌, ◌<◌, ◌≤◌, ◌+◌, ℕ, List, length, map, Option, Some, None, option_map, MatchOption, IsSorted, inl, inr, refl, sym, ◌∙◌, subst, Ordering, Less, Equal, Greater, nat_cmp, arith}
use Rattle.std.specs.Prelude.{Contains}
use Rattle.std.specs.Ordering.{ordering_then}
use Rattle.std.specs.Cmp.Lexicographic.{slice_cmp}
use Rattle.std.proofs.lemmas.Bool.{cases_lt}
use Rattle.std.proofs.lemmas.Cmp.{ranked, by_ranked}
use Rattle.jl_logic.specs.Order.{name_cmp, IsLeast, RisesBy}
use Rattle.jl_prim.specs.Limits.{most_modules}
use Rattle.jl_prim.specs.declared.numbers.LayerId.{LayerId}
use Rattle.jl_config.specs.Located.{configuration_of}
use Rattle.jl_config.specs.Orders.{module_cmp}
use Rattle.jl_layer.specs.declared.claims.Claim.{Claim}
use Rattle.jl_layer.specs.declared.claims.Clash.{Clash}
use Rattle.jl_layer.specs.declared.fault.LayerFault.{LayerFault}
use Rattle.jl_layer.specs.declared.fault.LayerFault.TheVariants.{ParentMismatch, BaseAgain, JavaPackage, Overlap, Split, TooMany, NoMemory}
use Rattle.jl_layer.specs.declared.layer.Mode.TheVariants.{One, Many}
use Rattle.jl_layer.specs.Layers.{State, layer_at}
use Rattle.jl_layer.specs.Defining.{Asked, asked_modules}
use Rattle.jl_layer.specs.Refusals.{IsOverlap, IsSplit, Applies, AppliesToBoot, rank, fields, fault_cmp}
use Rattle.jl_layer.specs.Claims.{claim_cmp, clash_cmp, IsClashOf, clash_in, clash_of, own_claims, free_claims}
use Rattle.jl_layer.specs.Deciding.{StartsAt, Settles}
use Rattle.jl_layer.proofs.Clashes.{clash_least, clash_among}
use Rattle.jl_layer.proofs.Overlaps.{overlap_of, overlap_from}
use Rattle.jl_layer.proofs.Splits.{HaveReaders, split_of, split_from}

-- ---- in order

-- one of a later kind is not less
later_not_less : (f g : LayerFault) → rank f < rank g → fault_cmp g f ≢ Less
later_not_less f g lt e =
    by_ranked (rank g < rank f) (rank g ≡ rank f) (rank f < rank g) (nat_cmp (rank g) (rank f)) (ranked (rank g) (rank f) (nat_cmp (rank g) (rank f)) refl)
    (λ r h. omega arith)
    (λ r h. omega arith)
    (λ r h. let greater : ordering_then Greater (slice_cmp name_cmp (fields g) (fields f)) ≡ Less = subst (λ (o : Ordering). ordering_then o (slice_cmp name_cmp (fields g) (fields f)) ≡ Less) r e in absurd cc)

module _ (P : LayerFault → Type 0) where
  pub starts : StartsAt P 0
  starts f h = omega arith

  -- nothing applies of the kind at hand
  pub past : (k : ℕ) → StartsAt P k → ((f : LayerFault) → P f → rank f ≡ k → ⊥) → StartsAt P (k + 1)
  past k before none f h = by (cases_lt k (rank f))
    where
      by : (k < rank f) ⊎ (rank f ≤ k) → k + 1 ≤ rank f
      by (inl lt) = omega arith
      by (inr le) = let low : k ≤ rank f = before f h in absurd (none f h (let e : rank f ≡ k = omega arith in e))

  -- the least of the first kind that applies
  pub first_at : (k : ℕ) (f : LayerFault) → StartsAt P k → P f → rank f ≡ k → ((g : LayerFault) → P g → rank g ≡ k → fault_cmp g f ≢ Less) → IsLeast fault_cmp P f
  first_at k f before has is least = record { has = has; least = λ g h. by g h (cases_lt k (rank g)) }
    where
      by : (g : LayerFault) → P g → (k < rank g) ⊎ (rank g ≤ k) → fault_cmp g f ≢ Less
      by g h (inl lt) = later_not_less f g (let l : rank f < rank g = omega arith in l)
      by g h (inr le) = let low : k ≤ rank g = before g h in least g h (let e : rank g ≡ k = omega arith in e)

  -- ---- overlaps

  module _ (s : State) (q : Asked) (of : (p one other : List ℕ) → P (Overlap p one other) → IsOverlap s q p one other) (from : (p one other : List ℕ) → IsOverlap s q p one other → P (Overlap p one other)) where
    of_overlap : (f : LayerFault) → P f → rank f ≡ 3 → (c : Clash) × (f ≡ Overlap c.«package» c.one c.other) × IsOverlap s q c.«package» c.one c.other
    of_overlap (Overlap p one other) h e = (record { «package» = p; one = one; other = other }, refl, of p one other h)
    of_overlap f h e = absurd (omega arith)

    pub no_overlaps : q.mode ≡ Many → StartsAt P 3 → StartsAt P 4
    no_overlaps mode before = past 3 before (λ f h e. let c = of_overlap f h e in let one : One ≡ Many = sym c.2.0 ∙ mode in absurd cc)

-- ---- the least clash

-- the clash is the least, or there is none
abbrev pub IsLeastClash : List Claim → Option Clash → Type 0
IsLeastClash claims o = MatchOption o ((c : Clash) → IsClashOf claims c → ⊥) (IsLeast clash_cmp (IsClashOf claims))

pub least_clash : (claims : List Claim) → IsSorted claim_cmp claims → IsLeastClash claims (option_map clash_of (clash_in claims))
least_clash claims sorted = by (clash_in claims) (clash_least claims sorted)
  where
    by : (o : Option (Claim × Claim)) → MatchOption o ((c : Clash) → IsClashOf claims c → ⊥) (λ p. IsLeast clash_cmp (IsClashOf claims) (clash_of p)) → IsLeastClash claims (option_map clash_of o)
    by None h = h
    by (Some p) h = h

-- the same items
pub record AreSame {X : Type 0} (xs ys : List X) : Type 0 where
  pub only : (x : X) → Contains xs x → Contains ys x
  pub all : (x : X) → Contains ys x → Contains xs x

pub least_alike : (claims others : List Claim) (o : Option Clash) → AreSame claims others → IsLeastClash claims o → IsLeastClash others o
least_alike claims others None same none = λ c h. none c (clash_among others claims c same.all h)
least_alike claims others (Some c) same least = record {
  has = clash_among claims others c same.only least.has;
  least = λ d h. least.least d (clash_among others claims d same.all h);
}

-- ---- overlaps and splits

abbrev pub overlap_fault : Clash → LayerFault
overlap_fault c = Overlap c.«package» c.one c.other

abbrev pub split_fault : Clash → LayerFault
split_fault c = Split c.«package» c.one c.other

module _ (P : LayerFault → Type 0) (s : State) (q : Asked) (of : (p one other : List ℕ) → P (Overlap p one other) → IsOverlap s q p one other)
    (from : (p one other : List ℕ) → IsOverlap s q p one other → P (Overlap p one other)) (mode : q.mode ≡ One) (up : RisesBy module_cmp (asked_modules s q)) where
  abbrev own : List Claim
  own = own_claims 0 (asked_modules s q)

  clash_of_overlap : (c : Clash) → IsOverlap s q c.«package» c.one c.other → IsClashOf own c
  clash_of_overlap c (m, a, b, ca, cb, na, nb, ne, ha, hb) = overlap_from (asked_modules s q) c (a, b, ca, cb, na, nb, ne, ha, hb)

  overlap_of_clash : (c : Clash) → IsClashOf own c → IsOverlap s q c.«package» c.one c.other
  overlap_of_clash c h = let r = overlap_of (asked_modules s q) c up h in (mode, r.0, r.1, r.2, r.3, r.4, r.5, r.6, r.7, r.8)

  pub overlaps_settle : StartsAt P 3 → (o : Option Clash) → IsLeastClash own o → Settles P 4 (option_map overlap_fault o)
  overlaps_settle before None none = past P 3 before (λ f h e. let c = of_overlap P s q of from f h e in none c.0 (clash_of_overlap c.0 c.2))
  overlaps_settle before (Some c) least =
      first_at P 3 (overlap_fault c) before (from c.«package» c.one c.other (overlap_of_clash c least.has)) refl
      (λ g h e l.
      let d = of_overlap P s q of from g h e in
      least.least d.0 (clash_of_overlap d.0 d.2) (subst (λ (x : LayerFault). fault_cmp x (overlap_fault c) ≡ Less) d.1 l))

-- ---- each kind of `define`

then_less : (o : Ordering) → ordering_then o Equal ≡ Less → o ≡ Less
then_less Less e = refl
then_less Equal e = absurd cc
then_less Greater e = absurd cc

module _ (s : State) (q : Asked) where
  -- ---- parents

  is_mismatch : (f : LayerFault) → Applies s q f → rank f ≡ 0 → f ≡ ParentMismatch
  is_mismatch ParentMismatch h e = refl
  is_mismatch f h e = absurd (omega arith)

  pub no_mismatch : map (λ (l : LayerId). (layer_at s l).config) q.parents ≡ (configuration_of s.configurations q.config).parents → StartsAt (Applies s q) 1
  no_mismatch same = past (Applies s q) 0 (starts (Applies s q)) (λ f h e. subst (Applies s q) (is_mismatch f h e) h same)

  pub mismatch : map (λ (l : LayerId). (layer_at s l).config) q.parents ≢ (configuration_of s.configurations q.config).parents → IsLeast fault_cmp (Applies s q) ParentMismatch
  mismatch ne = first_at (Applies s q) 0 ParentMismatch (starts (Applies s q)) ne refl (λ g h e l. let k : fault_cmp ParentMismatch ParentMismatch ≡ Less = subst (λ (x : LayerFault). fault_cmp x ParentMismatch ≡ Less) (is_mismatch g h e) l in absurd cc)

  -- ---- java.base

  is_base : (f : LayerFault) → Applies s q f → rank f ≡ 1 → f ≡ BaseAgain
  is_base BaseAgain h e = refl
  is_base f h e = absurd (omega arith)

  pub no_base : StartsAt (Applies s q) 1 → (Applies s q BaseAgain → ⊥) → StartsAt (Applies s q) 2
  no_base before none = past (Applies s q) 1 before (λ f h e. none (subst (Applies s q) (is_base f h e) h))

  pub base_again : StartsAt (Applies s q) 1 → Applies s q BaseAgain → IsLeast fault_cmp (Applies s q) BaseAgain
  base_again before h = first_at (Applies s q) 1 BaseAgain before h refl (λ g k e l. let i : fault_cmp BaseAgain BaseAgain ≡ Less = subst (λ (x : LayerFault). fault_cmp x BaseAgain ≡ Less) (is_base g k e) l in absurd cc)

  -- ---- packages of Java

  is_java_package : (f : LayerFault) → Applies s q f → rank f ≡ 2 → (p : List ℕ) × (f ≡ JavaPackage p) × Applies s q (JavaPackage p)
  is_java_package (JavaPackage p) h e = (p, refl, h)
  is_java_package f h e = absurd (omega arith)

  pub java_settles : StartsAt (Applies s q) 2 → (o : Option (List ℕ)) → MatchOption o ((p : List ℕ) → Applies s q (JavaPackage p) → ⊥) (IsLeast name_cmp (λ (p : List ℕ). Applies s q (JavaPackage p))) → Settles (Applies s q) 3 (option_map JavaPackage o)
  java_settles before None none = past (Applies s q) 2 before (λ f h e. let p = is_java_package f h e in none p.0 p.2)
  java_settles before (Some p) least =
      first_at (Applies s q) 2 (JavaPackage p) before least.has refl
      (λ g h e l.
      let r = is_java_package g h e in
      let less : ordering_then (name_cmp r.0 p) Equal ≡ Less = subst (λ (x : LayerFault). fault_cmp x (JavaPackage p) ≡ Less) r.1 l in
      least.least r.0 r.2 (then_less (name_cmp r.0 p) less))

  -- ---- overlaps

  pub define_overlaps : q.mode ≡ One → RisesBy module_cmp (asked_modules s q) → StartsAt (Applies s q) 3 → (o : Option Clash) → IsLeastClash (own_claims 0 (asked_modules s q)) o → Settles (Applies s q) 4 (option_map overlap_fault o)
  define_overlaps mode up before o least = overlaps_settle (Applies s q) s q (λ p one other h. h) (λ p one other h. h) mode up before o least

  pub define_no_overlaps : q.mode ≡ Many → StartsAt (Applies s q) 3 → StartsAt (Applies s q) 4
  define_no_overlaps mode before = no_overlaps (Applies s q) s q (λ p one other h. h) (λ p one other h. h) mode before

  -- ---- splits

  of_split : (f : LayerFault) → Applies s q f → rank f ≡ 4 → (c : Clash) × (f ≡ split_fault c) × IsSplit s q c.«package» c.one c.other
  of_split (Split p one other) h e = (record { «package» = p; one = one; other = other }, refl, h)
  of_split f h e = absurd (omega arith)

  clash_of_split : (c : Clash) → IsSplit s q c.«package» c.one c.other → IsClashOf (free_claims s q) c
  clash_of_split c (m, x, y, tx, ty, ne, nx, ny, none) = split_from s q c (x, y, tx, ty, ne, nx, ny, none)

  split_of_clash : (c : Clash) → q.mode ≡ One → HaveReaders s q → IsClashOf (free_claims s q) c → IsSplit s q c.«package» c.one c.other
  split_of_clash c mode readers h = let r = split_of s q c readers h in (mode, r.0, r.1, r.2, r.3, r.4, r.5, r.6, r.7)

  pub splits_settle : q.mode ≡ One → HaveReaders s q → StartsAt (Applies s q) 4 → (o : Option Clash) → IsLeastClash (free_claims s q) o → Settles (Applies s q) 5 (option_map split_fault o)
  splits_settle mode readers before None none = past (Applies s q) 4 before (λ f h e. let c = of_split f h e in none c.0 (clash_of_split c.0 c.2))
  splits_settle mode readers before (Some c) least =
      first_at (Applies s q) 4 (split_fault c) before (split_of_clash c mode readers least.has) refl
      (λ g h e l.
      let d = of_split g h e in
      least.least d.0 (clash_of_split d.0 d.2) (subst (λ (x : LayerFault). fault_cmp x (split_fault c) ≡ Less) d.1 l))

  pub no_splits : q.mode ≡ Many → StartsAt (Applies s q) 4 → StartsAt (Applies s q) 5
  no_splits mode before = past (Applies s q) 4 before (λ f h e. let c = of_split f h e in let one : One ≡ Many = sym c.2.0 ∙ mode in absurd cc)

  -- ---- too many

  is_many : (f : LayerFault) → Applies s q f → rank f ≡ 5 → f ≡ TooMany
  is_many TooMany h e = refl
  is_many f h e = absurd (omega arith)

  pub not_many : StartsAt (Applies s q) 5 → length s.modules + length (asked_modules s q) ≤ most_modules → length s.layers < most_modules → StartsAt (Applies s q) 6
  not_many before modules layers = past (Applies s q) 5 before (λ f h e. none (subst (Applies s q) (is_many f h e) h))
    where
      none : Applies s q TooMany → ⊥
      none (inl lt) = omega arith
      none (inr le) = omega arith

  pub too_many : StartsAt (Applies s q) 5 → Applies s q TooMany → IsLeast fault_cmp (Applies s q) TooMany
  too_many before h = first_at (Applies s q) 5 TooMany before h refl (λ g k e l. let i : fault_cmp TooMany TooMany ≡ Less = subst (λ (x : LayerFault). fault_cmp x TooMany ≡ Less) (is_many g k e) l in absurd cc)

  -- ---- none

  pub nothing_applies : StartsAt (Applies s q) 6 → (f : LayerFault) → Applies s q f → ⊥
  nothing_applies before NoMemory h = h
  nothing_applies before f h = let low = before f h in omega arith

  -- ---- the boot layer

  pub boot_starts : StartsAt (AppliesToBoot s q) 3
  boot_starts (Overlap p one other) h = omega arith
  boot_starts f h = absurd h

  pub boot_overlaps : q.mode ≡ One → RisesBy module_cmp (asked_modules s q) → (o : Option Clash) → IsLeastClash (own_claims 0 (asked_modules s q)) o → Settles (AppliesToBoot s q) 4 (option_map overlap_fault o)
  boot_overlaps mode up o least = overlaps_settle (AppliesToBoot s q) s q (λ p one other h. h) (λ p one other h. h) mode up boot_starts o least

  pub nothing_applies_to_boot : StartsAt (AppliesToBoot s q) 4 → (f : LayerFault) → AppliesToBoot s q f → ⊥
  nothing_applies_to_boot before (Overlap p one other) h = let low = before (Overlap p one other) h in omega arith
  nothing_applies_to_boot before f h = absurd h

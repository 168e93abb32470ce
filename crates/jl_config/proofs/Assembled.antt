-- A resolution put together of the searches for refusals of one kind each, and of the modules and reads.
use Rattle.std.proofs.Common.{◌≡◌, ◌≢◌, ◌⊎◌, ◌<◌, ◌≤◌, ℕ, zero, suc, ◌-◌, List, [], ◌∷◌, length, map, inl, inr, ⊎_elim, refl, sym, ap, subst, Contains, All, Some, Bool, true, false, Less, Greater, nat_cmp, Err, slice_get, arith}
use Rattle.std.specs.List.{AllByRecursion}
use Rattle.std.specs.Ordering.{ordering_then}
use Rattle.std.proofs.lemmas.Cmp.{ranked, by_ranked}
use Rattle.std.proofs.lemmas.List.Elements.{All-from_recursion, All-contains}
use Rattle.jl_prim.specs.declared.declaration.Observed.{Observed}
use Rattle.jl_logic.specs.Order.{IsLeast, RisesBy}
use Rattle.jl_logic.proofs.Rising.{contains_head, each_from_members}
use Rattle.jl_config.specs.declared.fault.ResolveFault.{ResolveFault}
use Rattle.jl_config.specs.declared.fault.ResolveFault.TheVariants.{NotFound, TooMany, Cycle, SameName, SamePackage, OwnPackage, ServicePackage, NoMemory}
use Rattle.jl_config.specs.declared.candidate.Candidate.{Candidate}
use Rattle.jl_config.specs.Configurations.{Configuration}
use Rattle.jl_config.specs.Located.{Asked, Scene, scene_of}
use Rattle.jl_config.specs.Members.{Enumerated, IsBound, IsMemberBy, IsMember}
use Rattle.jl_config.specs.Orders.{module_cmp, candidate_cmp}
use Rattle.jl_config.specs.Places.{AreMembers, candidates_at, MissingFault, CycleFault, SameNameFault, SamePackageFault, OwnPackageFault, ServiceFault}
use Rattle.jl_prim.specs.Limits.{most_modules}
use Rattle.jl_config.specs.Refusals.{IsLarge, Applies, rank, fields, fields_cmp, fault_cmp}
use Rattle.jl_config.specs.Resolves.{Resolves, AreModules, AreJustified, new_candidate}
use Rattle.jl_config.proofs.FaultOrder.{fault_total, candidates_total}
use Rattle.jl_config.proofs.Always.{IsTooMany, module_here}
use Rattle.jl_config.proofs.RisingLists.{not_below_itself, no_longer}
use Rattle.jl_config.proofs.Unique.{told_by_least}
use Rattle.jl_config.proofs.Lists.{into_map, from_map, into_filter_map, from_filter_map, filter_map_long, item_at}
use Rattle.jl_config.specs.Settled.{StartsAt}

-- ---- kinds of refusals, in their order

-- K is what applies of the kind with this rank
pub record IsKind (q : Asked) (k : ℕ) (K : ResolveFault → Type 0) : Type 0 where
  pub applies : (f : ResolveFault) → K f → Applies q f
  pub ranked : (f : ResolveFault) → K f → rank f ≡ k
  pub all : (f : ResolveFault) → Applies q f → rank f ≡ k → K f

pub none_further : (q : Asked) (k : ℕ) (K : ResolveFault → Type 0) → IsKind q k K → StartsAt q k → ((f : ResolveFault) → K f → ⊥) → StartsAt q (suc k)
none_further q k K kind before none = λ f a. further (rank f) (before f a) (λ e. none f (kind.all f a e))
  where
    further : (r : ℕ) → k ≤ r → (r ≡ k → ⊥) → suc k ≤ r
    further r h n = omega arith

pub nothing_applies : (q : Asked) → StartsAt q 8 → (f : ResolveFault) → Applies q f → ⊥
nothing_applies q before NoMemory a = a
nothing_applies q before f a = let h = before f a in omega arith

-- one of a later kind is not less
later_not_less : (f g : ResolveFault) → rank f < rank g → fault_cmp g f ≢ Less
later_not_less f g lt e =
    by_ranked (rank g < rank f) (rank g ≡ rank f) (rank f < rank g) (nat_cmp (rank g) (rank f)) (ranked (rank g) (rank f) (nat_cmp (rank g) (rank f)) refl)
    (λ r h. omega arith)
    (λ r h. omega arith)
    (λ r h. let greater : ordering_then Greater (fields_cmp (fields g) (fields f)) ≡ Less = subst (λ o. ordering_then o (fields_cmp (fields g) (fields f)) ≡ Less) r e in absurd cc)

-- the least of the first kind that applies is the answer
pub first_refusal : (q : Asked) (k : ℕ) (K : ResolveFault → Type 0) → IsKind q k K → StartsAt q k → (f : ResolveFault) → IsLeast fault_cmp K f → Resolves q (Err f)
first_refusal q k K kind before f least = told_by_least q f (record {
  has = kind.applies f least.has;
  least = λ g a. ⊎_elim (λ e. least.least g (kind.all g a e)) (λ lt. later_not_less f g (past (rank f) (rank g) (kind.ranked f least.has) lt)) (same_or_later (rank g) (before g a));
})
  where
    past : (r s : ℕ) → r ≡ k → k < s → r < s
    past r s e lt = omega arith

    same_or_later : (s : ℕ) → k ≤ s → (s ≡ k) ⊎ (k < s)
    same_or_later s h = by (s - k) refl
      where
        by : (d : ℕ) → s - k ≡ d → (s ≡ k) ⊎ (k < s)
        by zero e = inl (omega arith)
        by (suc d) e = inr (omega arith)

-- ---- each kind

abbrev pub TooManyFault : Asked → ResolveFault → Type 0
TooManyFault q f = IsTooMany q × (TooMany ≡ f)

too_many_all : (q : Asked) (f : ResolveFault) → Applies q f → rank f ≡ 2 → TooManyFault q f
too_many_all q TooMany a e = (a, refl)
too_many_all q f a e = absurd (omega arith)

pub too_many_kind : (q : Asked) → IsKind q 2 (TooManyFault q)
too_many_kind q = record { applies = λ f k. subst (Applies q) k.1 k.0; ranked = λ f k. ap rank (sym k.1); all = too_many_all q }

missing_applies : (q : Asked) (f : ResolveFault) → MissingFault (scene_of q) f → Applies q f × (rank f ≡ 1)
missing_applies q (NotFound name by) k = (k, refl)
missing_applies q f k = absurd k

missing_all : (q : Asked) (f : ResolveFault) → Applies q f → rank f ≡ 1 → MissingFault (scene_of q) f
missing_all q (NotFound name by) a e = a
missing_all q f a e = absurd (omega arith)

pub missing_kind : (q : Asked) → IsKind q 1 (MissingFault (scene_of q))
missing_kind q = record { applies = λ f k. (missing_applies q f k).0; ranked = λ f k. (missing_applies q f k).1; all = missing_all q }

cycle_applies : (q : Asked) (f : ResolveFault) → CycleFault (scene_of q) f → Applies q f × (rank f ≡ 3)
cycle_applies q (Cycle least) k = (k, refl)
cycle_applies q f k = absurd k

cycle_all : (q : Asked) (f : ResolveFault) → Applies q f → rank f ≡ 3 → CycleFault (scene_of q) f
cycle_all q (Cycle least) a e = a
cycle_all q f a e = absurd (omega arith)

pub cycle_kind : (q : Asked) → IsKind q 3 (CycleFault (scene_of q))
cycle_kind q = record { applies = λ f k. (cycle_applies q f k).0; ranked = λ f k. (cycle_applies q f k).1; all = cycle_all q }

same_name_applies : (q : Asked) (f : ResolveFault) → SameNameFault (scene_of q) f → Applies q f × (rank f ≡ 4)
same_name_applies q (SameName reader name) k = (k, refl)
same_name_applies q f k = absurd k

same_name_all : (q : Asked) (f : ResolveFault) → Applies q f → rank f ≡ 4 → SameNameFault (scene_of q) f
same_name_all q (SameName reader name) a e = a
same_name_all q f a e = absurd (omega arith)

pub same_name_kind : (q : Asked) → IsKind q 4 (SameNameFault (scene_of q))
same_name_kind q = record { applies = λ f k. (same_name_applies q f k).0; ranked = λ f k. (same_name_applies q f k).1; all = same_name_all q }

same_package_applies : (q : Asked) (f : ResolveFault) → SamePackageFault (scene_of q) f → Applies q f × (rank f ≡ 5)
same_package_applies q (SamePackage reader p one other) k = (k, refl)
same_package_applies q f k = absurd k

same_package_all : (q : Asked) (f : ResolveFault) → Applies q f → rank f ≡ 5 → SamePackageFault (scene_of q) f
same_package_all q (SamePackage reader p one other) a e = a
same_package_all q f a e = absurd (omega arith)

pub same_package_kind : (q : Asked) → IsKind q 5 (SamePackageFault (scene_of q))
same_package_kind q = record { applies = λ f k. (same_package_applies q f k).0; ranked = λ f k. (same_package_applies q f k).1; all = same_package_all q }

own_package_applies : (q : Asked) (f : ResolveFault) → OwnPackageFault (scene_of q) f → Applies q f × (rank f ≡ 6)
own_package_applies q (OwnPackage reader p other) k = (k, refl)
own_package_applies q f k = absurd k

own_package_all : (q : Asked) (f : ResolveFault) → Applies q f → rank f ≡ 6 → OwnPackageFault (scene_of q) f
own_package_all q (OwnPackage reader p other) a e = a
own_package_all q f a e = absurd (omega arith)

pub own_package_kind : (q : Asked) → IsKind q 6 (OwnPackageFault (scene_of q))
own_package_kind q = record { applies = λ f k. (own_package_applies q f k).0; ranked = λ f k. (own_package_applies q f k).1; all = own_package_all q }

service_applies : (q : Asked) (f : ResolveFault) → ServiceFault (scene_of q) f → Applies q f × (rank f ≡ 7)
service_applies q (ServicePackage name service) k = (k, refl)
service_applies q f k = absurd k

service_all : (q : Asked) (f : ResolveFault) → Applies q f → rank f ≡ 7 → ServiceFault (scene_of q) f
service_all q (ServicePackage name service) a e = a
service_all q f a e = absurd (omega arith)

pub service_kind : (q : Asked) → IsKind q 7 (ServiceFault (scene_of q))
service_kind q = record { applies = λ f k. (service_applies q f k).0; ranked = λ f k. (service_applies q f k).1; all = service_all q }

-- ---- the kinds that have no fields

alone_least : (A : Type 0) (f : ResolveFault) → A → IsLeast fault_cmp (λ g. A × (f ≡ g)) f
alone_least A f a = record { has = (a, refl); least = λ g k l. not_below_itself fault_cmp fault_total f (subst (λ h. fault_cmp h f ≡ Less) (sym k.1) l) }

pub too_many_first : (q : Asked) → StartsAt q 2 → IsTooMany q → Resolves q (Err TooMany)
too_many_first q before k = first_refusal q 2 (TooManyFault q) (too_many_kind q) before TooMany (alone_least (IsTooMany q) TooMany k)

-- ---- what is bound

enumerated_bound : (w : Scene) (n : ℕ) (s : Candidate) → Enumerated w n s → IsBound w s
enumerated_bound w zero s e = ([], (e.0, inl e.1, tt))
enumerated_bound w (suc n) s (found, (p, e, needs)) =
    let before = enumerated_bound w n p e in
    (p ∷ before.0, (found, inr (inl (p, contains_head p before.0, needs)), before.1))

member_bound_by : (b : Bool) (w : Scene) (s : Candidate) → IsMemberBy b w s → IsBound w s
member_bound_by true w s m = m
member_bound_by false w s (n, e) = enumerated_bound w n s e

pub member_bound : (w : Scene) (s : Candidate) → IsMember w s → IsBound w s
member_bound w s m = member_bound_by w.binds w s m

pub justified_by_members : (q : Asked) (g : Configuration) → AreModules q g.modules → AreJustified q g
justified_by_members q g modules o c = member_bound (scene_of q) (new_candidate q o) (modules.only o c)

-- ---- members by their places, in order

candidates_long : (w : Scene) (ps : List ℕ) → All (λ p. p < length w.candidates) ps → length (candidates_at w ps) ≡ length ps
candidates_long w ps a = filter_map_long (slice_get w.candidates) ps (each_from_members (λ p. (s : Candidate) × (slice_get w.candidates p ≡ Some s)) ps (λ p c. item_at w.candidates p (All-contains (λ k. k < length w.candidates) ps p a c)))

members_at : (w : Scene) (ps : List ℕ) → AreMembers w ps → (s : Candidate) → Contains (candidates_at w ps) s → IsMember w s
members_at w ps m s c = let k = from_filter_map (slice_get w.candidates) ps s c in (m.only k.0 s k.1 k.2).0

at_members : (w : Scene) (ps : List ℕ) → AreMembers w ps → (s : Candidate) → IsMember w s → Contains (candidates_at w ps) s
at_members w ps m s k = let r = m.all s k in into_filter_map (slice_get w.candidates) ps r.0 s r.1 r.2

-- the set is too large exactly where there are more places than that
pub large_by_places : (w : Scene) (ps : List ℕ) → AreMembers w ps → most_modules < length ps → IsLarge w
large_by_places w ps m h =
    let long : length (candidates_at w ps) ≡ length ps = candidates_long w ps m.within in
    (candidates_at w ps, m.rise, All-from_recursion (IsMember w) (candidates_at w ps) (each_from_members (IsMember w) (candidates_at w ps) (members_at w ps m)), more (length (candidates_at w ps)) (length ps) long h)
  where
    more : (a b : ℕ) → a ≡ b → most_modules < b → most_modules < a
    more a b e l = omega arith

pub not_large_by_places : (w : Scene) (ps : List ℕ) → AreMembers w ps → length ps ≤ most_modules → IsLarge w → ⊥
not_large_by_places w ps m h large =
    let long : length (candidates_at w ps) ≡ length ps = candidates_long w ps m.within in
    let shorter : length large.0 ≤ length (candidates_at w ps) = no_longer candidate_cmp candidates_total large.0 (candidates_at w ps) large.1 m.rise (λ s c. at_members w ps m s (All-contains (IsMember w) large.0 s large.2 c)) in
    few (length large.0) (length (candidates_at w ps)) (length ps) shorter long h large.3
  where
    few : (a b c : ℕ) → a ≤ b → b ≡ c → c ≤ most_modules → most_modules < a → ⊥
    few a b c h e k l = omega arith

-- ---- the modules, copied in the order of the places

abbrev pub observed_of : Candidate → Observed
observed_of s = s.observed

above_mapped : (s : Candidate) (ss : List Candidate) → AllByRecursion (λ t. candidate_cmp s t ≡ Less) ss → AllByRecursion (λ o. module_cmp s.observed o ≡ Less) (map observed_of ss)
above_mapped s [] h = tt
above_mapped s (t ∷ ss) h = (h.0, above_mapped s ss h.1)

rises_mapped : (ss : List Candidate) → RisesBy candidate_cmp ss → RisesBy module_cmp (map observed_of ss)
rises_mapped [] up = tt
rises_mapped (s ∷ ss) up = (above_mapped s ss up.0, rises_mapped ss up.1)

-- modules at the places of a set stand in name order
pub modules_rise : (w : Scene) (ps : List ℕ) (os : List Observed) → AreMembers w ps → os ≡ map observed_of (candidates_at w ps) → RisesBy module_cmp os
modules_rise w ps os m e = subst (RisesBy module_cmp) (sym e) (rises_mapped (candidates_at w ps) m.rise)

pub modules_by_places : (q : Asked) (ps : List ℕ) (os : List Observed) → AreMembers (scene_of q) ps → os ≡ map observed_of (candidates_at (scene_of q) ps) → AreModules q os
modules_by_places q ps os m e = subst (AreModules q) (sym e) (record {
  rise = modules_rise (scene_of q) ps (map observed_of (candidates_at (scene_of q) ps)) m refl;
  only = λ o c.
      let r = from_map observed_of (candidates_at (scene_of q) ps) o c in
      let here : IsMember (scene_of q) r.0 = members_at (scene_of q) ps m r.0 r.1 in
      subst (IsMember (scene_of q)) (module_here q r.0 o here r.2) here;
  all = λ s k. into_map observed_of (candidates_at (scene_of q) ps) s (at_members (scene_of q) ps m s k);
})

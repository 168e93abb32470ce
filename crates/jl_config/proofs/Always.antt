-- A resolution always has an answer: of the refusals that apply the least, or the graph; so it is refused where one applies.
use Rattle.std.proofs.Common.{◌≡◌, ◌≢◌, ◌⊎◌, ◌≤◌, ◌+◌, ℕ, List, [], ◌∷◌, length, inl, inr, refl, sym, ◌∙◌, ap, subst, Option, Equal, Result, Ok, Err, eqb-true}
use Rattle.jl_prim.specs.declared.numbers.ConfigId.{ConfigId}
use Rattle.jl_prim.specs.declared.declaration.Observed.{Observed}
use Rattle.jl_logic.specs.Order.{IsLeast}
use Rattle.jl_config.specs.declared.configuration.Read.{Read}
use Rattle.jl_config.specs.declared.fault.ResolveFault.{ResolveFault}
use Rattle.jl_config.specs.declared.fault.ResolveFault.TheVariants.{NoParents, NotFound, TooMany, Cycle, SameName, SamePackage, OwnPackage, ServicePackage, NoMemory}
use Rattle.jl_config.specs.declared.candidate.Candidate.{Candidate}
use Rattle.jl_config.specs.Configurations.{Configuration}
use Rattle.jl_config.specs.Laws.{ResolvesAlways, RefusesWhereOneHolds}
use Rattle.jl_config.specs.Located.{Asked, Scene, scene_of, id_of, name_of, candidate_name}
use Rattle.jl_config.specs.Members.{IsMember, Reads}
use Rattle.jl_config.specs.Orders.{module_cmp, read_cmp}
use Rattle.jl_prim.specs.Limits.{most_modules}
use Rattle.jl_config.specs.Refusals.{IsMissing, IsLarge, IsOnCycle, IsSameName, IsSamePackage, IsOwnPackage, IsServicePackage, Applies, fault_cmp}
use Rattle.jl_config.specs.Resolves.{Resolves, AreModules, AreReads, IsConfigurationOf, read_of, new_candidate}
use Rattle.jl_config.proofs.FaultOrder.{fault_total, modules_total, reads_total, reads_exact}
use Rattle.jl_config.proofs.Names.{names_exact}
use Rattle.jl_config.proofs.FaultListings.{missing_listed, decided_large, same_name_listed, same_package_listed, own_package_listed, service_listed}
use Rattle.jl_config.proofs.DeclaredLists.{decided_config}
use Rattle.jl_config.proofs.Listed.{Lists, all_listed}
use Rattle.jl_config.proofs.MemberFinds.{one_of_name, member_found}
use Rattle.jl_config.proofs.Listings.{Listing, Decided, decided_either, decided_less, listing_each, listing_same, listing_either, listing_if, listing_map}
use Rattle.jl_config.proofs.RisingLists.{Rising, sorted, least_or_none}
use Rattle.jl_config.proofs.Unique.{least_told, told_by_least}

-- ---- the refusals that apply

-- one of a kind, made of what the property holds for
abbrev Made : {X : Type 0} → (X → Type 0) → (X → ResolveFault) → ResolveFault → Type 0
Made {X} P make f = (x : X) × P x × (make x ≡ f)

abbrev pub IsTooMany : Asked → Type 0
IsTooMany q = IsLarge (scene_of q) ⊎ (most_modules ≤ length q.known)

abbrev not_found : List ℕ × Option (List ℕ) → ResolveFault
not_found m = NotFound m.0 m.1

abbrev same_name : List ℕ × List ℕ → ResolveFault
same_name m = SameName m.0 m.1

abbrev same_package : List ℕ × List ℕ × List ℕ × List ℕ → ResolveFault
same_package m = SamePackage m.0 m.1 m.2 m.3

abbrev own_package : List ℕ × List ℕ × List ℕ → ResolveFault
own_package m = OwnPackage m.0 m.1 m.2

abbrev service_package : List ℕ × List ℕ → ResolveFault
service_package m = ServicePackage m.0 m.1

-- of packages and services
abbrev LaterKind : Asked → ResolveFault → Type 0
LaterKind q f = Made (IsSameName (scene_of q)) same_name f
    ⊎ (Made (IsSamePackage (scene_of q)) same_package f
    ⊎ (Made (IsOwnPackage (scene_of q)) own_package f
    ⊎ Made (IsServicePackage (scene_of q)) service_package f))

abbrev Kind : Asked → ResolveFault → Type 0
Kind q f = ((q.parents ≡ []) × (NoParents ≡ f))
    ⊎ (Made (IsMissing (scene_of q)) not_found f
    ⊎ ((IsTooMany q × (TooMany ≡ f))
    ⊎ (Made (IsOnCycle (scene_of q)) Cycle f
    ⊎ LaterKind q f)))

later_applies : (q : Asked) (f : ResolveFault) → LaterKind q f → Applies q f
later_applies q f (inl k) = subst (Applies q) k.2 k.1
later_applies q f (inr (inl k)) = subst (Applies q) k.2 k.1
later_applies q f (inr (inr (inl k))) = subst (Applies q) k.2 k.1
later_applies q f (inr (inr (inr k))) = subst (Applies q) k.2 k.1

kind_applies : (q : Asked) (f : ResolveFault) → Kind q f → Applies q f
kind_applies q f (inl k) = subst (Applies q) k.1 k.0
kind_applies q f (inr (inl k)) = subst (Applies q) k.2 k.1
kind_applies q f (inr (inr (inl k))) = subst (Applies q) k.1 k.0
kind_applies q f (inr (inr (inr (inl k)))) = subst (Applies q) k.2 k.1
kind_applies q f (inr (inr (inr (inr k)))) = later_applies q f k

applies_kind : (q : Asked) (f : ResolveFault) → Applies q f → Kind q f
applies_kind q NoParents k = inl (k, refl)
applies_kind q (NotFound name by) k = inr (inl ((name, by), k, refl))
applies_kind q TooMany k = inr (inr (inl (k, refl)))
applies_kind q (Cycle least) k = inr (inr (inr (inl (least, k, refl))))
applies_kind q (SameName reader name) k = inr (inr (inr (inr (inl ((reader, name), k, refl)))))
applies_kind q (SamePackage reader p one other) k = inr (inr (inr (inr (inr (inl ((reader, p, one, other), k, refl))))))
applies_kind q (OwnPackage reader p other) k = inr (inr (inr (inr (inr (inr (inl ((reader, p, other), k, refl)))))))
applies_kind q (ServicePackage name service) k = inr (inr (inr (inr (inr (inr (inr ((name, service), k, refl)))))))
applies_kind q NoMemory k = absurd k

decided_no_parents : (ps : List ConfigId) → Decided (ps ≡ [])
decided_no_parents [] = inl refl
decided_no_parents (p ∷ ps) = inr (λ e. absurd cc)

later_listed : (q : Asked) → Lists (scene_of q) → Listing (LaterKind q)
later_listed q lists =
    listing_either (Made (IsSameName (scene_of q)) same_name) (λ f. Made (IsSamePackage (scene_of q)) same_package f ⊎ (Made (IsOwnPackage (scene_of q)) own_package f ⊎ Made (IsServicePackage (scene_of q)) service_package f))
    (listing_map (IsSameName (scene_of q)) same_name (same_name_listed (scene_of q) lists))
    (listing_either (Made (IsSamePackage (scene_of q)) same_package) (λ f. Made (IsOwnPackage (scene_of q)) own_package f ⊎ Made (IsServicePackage (scene_of q)) service_package f)
    (listing_map (IsSamePackage (scene_of q)) same_package (same_package_listed (scene_of q) lists))
    (listing_either (Made (IsOwnPackage (scene_of q)) own_package) (Made (IsServicePackage (scene_of q)) service_package)
    (listing_map (IsOwnPackage (scene_of q)) own_package (own_package_listed (scene_of q) lists))
    (listing_map (IsServicePackage (scene_of q)) service_package (service_listed (scene_of q) lists))))

decided_too_many : (q : Asked) → Lists (scene_of q) → Decided (IsTooMany q)
decided_too_many q lists = decided_either (IsLarge (scene_of q)) (most_modules ≤ length q.known) (decided_large (scene_of q) lists) (decided_most (length q.known))
  where
    decided_most : (n : ℕ) → Decided (most_modules ≤ n)
    decided_most n = decided_less 4095 n

faults_listed : (q : Asked) → Lists (scene_of q) → Listing (Applies q)
faults_listed q lists =
    listing_same (Kind q) (Applies q) (kind_applies q) (applies_kind q)
    (listing_either (λ f. (q.parents ≡ []) × (NoParents ≡ f)) (λ f. Made (IsMissing (scene_of q)) not_found f ⊎ ((IsTooMany q × (TooMany ≡ f)) ⊎ (Made (IsOnCycle (scene_of q)) Cycle f ⊎ LaterKind q f)))
    (listing_if (q.parents ≡ []) NoParents (decided_no_parents q.parents))
    (listing_either (Made (IsMissing (scene_of q)) not_found) (λ f. (IsTooMany q × (TooMany ≡ f)) ⊎ (Made (IsOnCycle (scene_of q)) Cycle f ⊎ LaterKind q f))
    (listing_map (IsMissing (scene_of q)) not_found (missing_listed (scene_of q) lists))
    (listing_either (λ f. IsTooMany q × (TooMany ≡ f)) (λ f. Made (IsOnCycle (scene_of q)) Cycle f ⊎ LaterKind q f)
    (listing_if (IsTooMany q) TooMany (decided_too_many q lists))
    (listing_either (Made (IsOnCycle (scene_of q)) Cycle) (LaterKind q)
    (listing_map (IsOnCycle (scene_of q)) Cycle lists.cycles)
    (later_listed q lists)))))

-- ---- the modules

abbrev OfMember : Scene → Observed → Type 0
OfMember w o = (s : Candidate) × IsMember w s × (s.observed ≡ o)

modules_tied : (w : Scene) (o p : Observed) → OfMember w o → OfMember w p → module_cmp o p ≡ Equal → o ≡ p
modules_tied w o p k m e =
    let names : name_of o ≡ name_of p = names_exact (name_of o) (name_of p) e in
    let same : k.0 ≡ m.0 = one_of_name w k.0 m.0 k.1 m.1 (ap name_of k.2 ∙ names ∙ sym (ap name_of m.2)) in
    sym k.2 ∙ ap (λ (s : Candidate). s.observed) same ∙ m.2

pub module_here : (q : Asked) (s : Candidate) (o : Observed) → IsMember (scene_of q) s → s.observed ≡ o → s ≡ new_candidate q o
module_here q s o m e =
    let number : s.config.0 ≡ length q.known + 1 = eqb-true s.config.0 (length q.known + 1) (member_found (scene_of q) s m).by_finder in
    λ i. record { config = record { 0 = number i }; observed = e i }

modules_made : (q : Asked) → Lists (scene_of q) → (os : List Observed) × AreModules q os
modules_made q lists =
    let os : Rising module_cmp modules_total (OfMember (scene_of q)) =
    sorted module_cmp modules_total (OfMember (scene_of q)) (listing_map (IsMember (scene_of q)) (λ (s : Candidate). s.observed) lists.members) (modules_tied (scene_of q)) in (
      os.items,
      record {
        rise = os.rise;
        only = λ o c. let k = os.only o c in subst (IsMember (scene_of q)) (module_here q k.0 o k.1 k.2) k.1;
        all = λ s m. os.all s.observed (s, m, refl);
      },
    )

-- ---- what they read

abbrev ReadByOne : Scene → Candidate → Read → Type 0
ReadByOne w a r = (b : Candidate) × Reads w a b × (read_of a b ≡ r)

abbrev ReadByMember : Scene → Read → Type 0
ReadByMember w r = (a : Candidate) × IsMember w a × ReadByOne w a r

configs_same : (w : Scene) → ((m : List ℕ × List ℕ) → IsSameName w m → ⊥) → (a b c : Candidate) → IsMember w a → Reads w a b → Reads w a c → candidate_name b ≡ candidate_name c → Decided (b.config ≡ c.config) → b.config ≡ c.config
configs_same w none a b c m rb rc e (inl k) = k
configs_same w none a b c m rb rc e (inr n) = absurd (none (candidate_name a, candidate_name b) (a, b, c, m, refl, rb, rc, refl, sym e, n))

reads_tied : (w : Scene) → ((m : List ℕ × List ℕ) → IsSameName w m → ⊥) → (r s : Read) → ReadByMember w r → ReadByMember w s → read_cmp r s ≡ Equal → r ≡ s
reads_tied w none r s (a, am, (b, rb, rs)) (c, cm, (d, rd, ss)) e = reads_exact r s e together
  where
    named : (x y : Candidate) (t : Read) → read_of x y ≡ t → candidate_name x ≡ t.reader
    named x y t f = ap (λ (u : Read). u.reader) f

    names : (x y : Candidate) (t : Read) → read_of x y ≡ t → candidate_name y ≡ t.name
    names x y t f = ap (λ (u : Read). u.name) f

    together : r.reader ≡ s.reader → r.name ≡ s.name → r ≡ s
    together f g =
        let one : a ≡ c = one_of_name w a c am cm (named a b r rs ∙ f ∙ sym (named c d s ss)) in
        let to : candidate_name b ≡ candidate_name d = names a b r rs ∙ g ∙ sym (names c d s ss) in
        let rd : Reads w a d = subst (λ x. Reads w x d) (sym one) rd in
        let config : b.config ≡ d.config = configs_same w none a b d am rb rd to (decided_config b.config d.config) in
        sym rs ∙ (λ i. record { reader = candidate_name (one i); config = config i; name = to i }) ∙ ss

reads_made : (w : Scene) → Lists w → ((m : List ℕ × List ℕ) → IsSameName w m → ⊥) → (rs : List Read) × AreReads w rs
reads_made w lists none =
    let rs : Rising read_cmp reads_total (ReadByMember w) =
    sorted read_cmp reads_total (ReadByMember w)
    (listing_each (ReadByOne w) (IsMember w) lists.members (λ a m. listing_map (Reads w a) (read_of a) (lists.reads a m)))
    (reads_tied w none) in (
      rs.items,
      record {
        rise = rs.rise;
        only = λ r c. let k = rs.only r c in (k.0, k.2.0, k.1, k.2.1, sym k.2.2);
        all = λ a b m r. rs.all (read_of a b) (a, m, (b, r, refl));
      },
    )

-- ---- the answer

configuration_made : (q : Asked) → Lists (scene_of q) → ((f : ResolveFault) → Applies q f → ⊥) → (g : Configuration) × IsConfigurationOf q g
configuration_made q lists none =
    let modules = modules_made q lists in
    let reads = reads_made (scene_of q) lists (λ m k. none (SameName m.0 m.1) k) in (
      record { id = id_of q; parents = q.parents; modules = modules.0; reads = reads.0 },
      record { number = refl; given = refl; modules = modules.1; reads = reads.1 },
    )

abbrev Answer : Asked → Type 0
Answer q = (r : Result Configuration ResolveFault) × Resolves q r × (r ≢ Err NoMemory)

answer_by : (q : Asked) → Lists (scene_of q) → ((f : ResolveFault) × IsLeast fault_cmp (Applies q) f) ⊎ ((f : ResolveFault) → Applies q f → ⊥) → Answer q
answer_by q lists (inl (f, least)) = (Err f, told_by_least q f least, λ e. let same : f ≡ NoMemory = cc in subst (Applies q) same least.has)
answer_by q lists (inr none) = let g = configuration_made q lists none in (Ok g.0, (none, g.1), λ e. absurd cc)

pub resolves_always : ResolvesAlways
resolves_always q =
    let lists = all_listed (scene_of q) in
    answer_by q lists (least_or_none fault_cmp fault_total (Applies q) (faults_listed q lists))

-- ---- refusals

refused_by : (q : Asked) (f : ResolveFault) → Applies q f → Answer q → (g : ResolveFault) × (g ≢ NoMemory) × Resolves q (Err g)
refused_by q f k (Ok g, r, n) = absurd (r.0 f k)
refused_by q f k (Err g, r, n) = (g, (λ e. n (ap Err e)), r)

pub refuses_where_one_holds : RefusesWhereOneHolds
refuses_where_one_holds q = (
  λ k. (k.0, (least_told q k.0 k.1 k.2).has),
  λ k. refused_by q k.0 k.1 (resolves_always q),
)

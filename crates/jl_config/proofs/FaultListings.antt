-- For each kind of refusal the list of exactly the fields for which its condition holds.
use Rattle.std.proofs.Common.{◌≡◌, ◌≢◌, ◌⊎◌, ◌<◌, ◌≤◌, ℕ, List, length, inl, inr, refl, sym, ◌∙◌, subst, Contains, Option, Some, None, arith}
use Rattle.std.proofs.lemmas.List.Elements.{All-from_recursion, All-contains}
use Rattle.jl_names.specs.Names.{package_of}
use Rattle.jl_logic.proofs.Rising.{each_from_members}
use Rattle.jl_config.specs.declared.candidate.Candidate.{Candidate}
use Rattle.jl_config.specs.Located.{Scene, candidate_name, located}
use Rattle.jl_config.specs.Members.{Needs, Uses, IsProvidedBy, IsMember, Reads}
use Rattle.jl_config.specs.Orders.{candidate_cmp}
use Rattle.jl_prim.specs.Limits.{most_modules}
use Rattle.jl_config.specs.Refusals.{IsMissing, IsLarge, IsSameName, Exports, Gets, Holds, IsSamePackage, IsOwnPackage, Sees, IsServicePackage}
use Rattle.jl_config.proofs.DeclaredLists.{decided_in, needed, exported, services, decided_config}
use Rattle.jl_config.proofs.FaultOrder.{candidates_total}
use Rattle.jl_config.proofs.Names.{names_exact}
use Rattle.jl_config.proofs.Listings.{Listing, Decided, decided_both, decided_either, decided_not, decided_same, decided_name, decided_less, decided_none, decided_contains, decided_some, listing_each, listing_where, listing_same, listing_either, listing_if, listing_map, listing_items}
use Rattle.jl_config.proofs.RisingLists.{Rising, sorted, no_longer}
use Rattle.jl_config.proofs.Listed.{Lists}
use Rattle.jl_config.proofs.MemberFinds.{one_of_name}

-- ---- what is not there

abbrev RootMissing : Scene → List ℕ × Option (List ℕ) → Type 0
RootMissing w m = (name : List ℕ) × (Contains w.roots name × (located w name ≡ None)) × ((name, None) ≡ m)

abbrev NeedOfMissing : Scene → Candidate → List ℕ × Option (List ℕ) → Type 0
NeedOfMissing w s m = (name : List ℕ) × (Needs s name × (located w name ≡ None)) × ((name, Some (candidate_name s)) ≡ m)

abbrev NeedMissing : Scene → List ℕ × Option (List ℕ) → Type 0
NeedMissing w m = (s : Candidate) × IsMember w s × NeedOfMissing w s m

missing_from : (w : Scene) (m : List ℕ × Option (List ℕ)) → RootMissing w m ⊎ NeedMissing w m → IsMissing w m
missing_from w m (inl k) = subst (IsMissing w) k.2 k.1
missing_from w m (inr k) = subst (IsMissing w) k.2.2 (k.0, k.1, refl, k.2.1.0, k.2.1.1)

missing_into : (w : Scene) (m : List ℕ × Option (List ℕ)) → IsMissing w m → RootMissing w m ⊎ NeedMissing w m
missing_into w (name, None) k = inl (name, k, refl)
missing_into w (name, Some by) k = inr (k.0, k.1, (name, (k.3, k.4), λ i. (name, Some (k.2 i))))

roots_missing : (w : Scene) → Listing (RootMissing w)
roots_missing w =
    listing_map (λ name. Contains w.roots name × (located w name ≡ None)) (λ name. (name, None))
    (listing_where (Contains w.roots) (λ name. located w name ≡ None) (listing_items w.roots) (λ name c. decided_none (located w name)))

need_missing : (w : Scene) (s : Candidate) → Listing (NeedOfMissing w s)
need_missing w s =
    listing_map (λ name. Needs s name × (located w name ≡ None)) (λ name. (name, Some (candidate_name s)))
    (listing_where (Needs s) (λ name. located w name ≡ None) (needed s) (λ name c. decided_none (located w name)))

pub missing_listed : (w : Scene) → Lists w → Listing (IsMissing w)
missing_listed w lists =
    listing_same (λ m. RootMissing w m ⊎ NeedMissing w m) (IsMissing w) (missing_from w) (missing_into w)
    (listing_either (RootMissing w) (NeedMissing w) (roots_missing w)
    (listing_each (NeedOfMissing w) (IsMember w) lists.members (λ s k. need_missing w s)))

-- ---- too much

large_by : (w : Scene) (ss : Rising candidate_cmp candidates_total (IsMember w)) → Decided (most_modules < length ss.items) → Decided (IsLarge w)
large_by w ss (inl h) = inl (ss.items, ss.rise, All-from_recursion (IsMember w) ss.items (each_from_members (IsMember w) ss.items ss.only), h)
large_by w ss (inr n) = inr (λ k. n (longer (length k.0) (length ss.items) k.3 (no_longer candidate_cmp candidates_total k.0 ss.items k.1 ss.rise (λ s c. ss.all s (All-contains (IsMember w) k.0 s k.2 c)))))
  where
    longer : (a b : ℕ) → most_modules < a → a ≤ b → most_modules < b
    longer a b h k = omega arith

pub decided_large : (w : Scene) → Lists w → Decided (IsLarge w)
decided_large w lists =
    let ss : Rising candidate_cmp candidates_total (IsMember w) = sorted candidate_cmp candidates_total (IsMember w) lists.members (λ x y a b e. one_of_name w x y a b (names_exact (candidate_name x) (candidate_name y) e)) in
    large_by w ss (decided_less most_modules (length ss.items))

-- ---- two of one name

abbrev SameNameTo : Scene → Candidate → Candidate → Candidate → List ℕ × List ℕ → Type 0
SameNameTo w a b c m = ((candidate_name c ≡ candidate_name b) × (b.config ≢ c.config)) × ((candidate_name a, candidate_name b) ≡ m)

abbrev SameNameWith : Scene → Candidate → Candidate → List ℕ × List ℕ → Type 0
SameNameWith w a b m = (c : Candidate) × Reads w a c × SameNameTo w a b c m

abbrev SameNameOf : Scene → Candidate → List ℕ × List ℕ → Type 0
SameNameOf w a m = (b : Candidate) × Reads w a b × SameNameWith w a b m

same_name_of : (w : Scene) (a : Candidate) → Listing (Reads w a) → Listing (SameNameOf w a)
same_name_of w a reads =
    listing_each (SameNameWith w a) (Reads w a) reads (λ b rb.
    listing_each (SameNameTo w a b) (Reads w a) reads (λ c rc.
    listing_if ((candidate_name c ≡ candidate_name b) × (b.config ≢ c.config)) (candidate_name a, candidate_name b)
    (decided_both (candidate_name c ≡ candidate_name b) (b.config ≢ c.config) (decided_name (candidate_name c) (candidate_name b)) (decided_not (b.config ≡ c.config) (decided_config b.config c.config)))))

same_name_from : (w : Scene) (m : List ℕ × List ℕ) → (a : Candidate) × IsMember w a × SameNameOf w a m → IsSameName w m
same_name_from w m (a, am, (b, rb, (c, rc, (k, is)))) = subst (IsSameName w) is (a, b, c, am, refl, rb, rc, refl, k.0, k.1)

same_name_into : (w : Scene) (m : List ℕ × List ℕ) → IsSameName w m → (a : Candidate) × IsMember w a × SameNameOf w a m
same_name_into w m (a, b, c, am, ea, rb, rc, eb, ec, n) = (a, am, (b, rb, (c, rc, ((ec ∙ sym eb, n), λ i. (ea i, eb i)))))

pub same_name_listed : (w : Scene) → Lists w → Listing (IsSameName w)
same_name_listed w lists =
    listing_same (λ m. (a : Candidate) × IsMember w a × SameNameOf w a m) (IsSameName w) (same_name_from w) (same_name_into w)
    (listing_each (SameNameOf w) (IsMember w) lists.members (λ a am. same_name_of w a (lists.reads a am)))

-- ---- packages

abbrev Apart : Candidate → Candidate → Candidate → Type 0
Apart a b c = (candidate_name b ≢ candidate_name a) × (candidate_name c ≢ candidate_name a) × (candidate_name b ≢ candidate_name c)

abbrev SamePackageTo : Scene → Candidate → Candidate → List ℕ → Candidate → List ℕ × List ℕ × List ℕ × List ℕ → Type 0
SamePackageTo w a b p c m = (Exports c p (candidate_name a) × Apart a b c) × ((candidate_name a, p, candidate_name b, candidate_name c) ≡ m)

abbrev SamePackageBy : Scene → Candidate → Candidate → List ℕ → List ℕ × List ℕ × List ℕ × List ℕ → Type 0
SamePackageBy w a b p m = (c : Candidate) × Reads w a c × SamePackageTo w a b p c m

abbrev SamePackageWith : Scene → Candidate → Candidate → List ℕ × List ℕ × List ℕ × List ℕ → Type 0
SamePackageWith w a b m = (p : List ℕ) × Exports b p (candidate_name a) × SamePackageBy w a b p m

abbrev SamePackageOf : Scene → Candidate → List ℕ × List ℕ × List ℕ × List ℕ → Type 0
SamePackageOf w a m = (b : Candidate) × Reads w a b × SamePackageWith w a b m

decided_differ : (a b : List ℕ) → Decided (a ≢ b)
decided_differ a b = decided_not (a ≡ b) (decided_name a b)

decided_exports : (s : Candidate) (p reader : List ℕ) → Decided (Exports s p reader)
decided_exports s p reader = decided_in (λ k. Exports s k reader) (exported s reader) p

decided_three : (A B C : Type 0) → Decided A → Decided B → Decided C → Decided (A × B × C)
decided_three A B C a b c = decided_same (A × (B × C)) (A × B × C) (λ k. (k.0, k.1.0, k.1.1)) (λ k. (k.0, (k.1, k.2))) (decided_both A (B × C) a (decided_both B C b c))

decided_apart : (a b c : Candidate) → Decided (Apart a b c)
decided_apart a b c =
    decided_three (candidate_name b ≢ candidate_name a) (candidate_name c ≢ candidate_name a) (candidate_name b ≢ candidate_name c)
    (decided_differ (candidate_name b) (candidate_name a)) (decided_differ (candidate_name c) (candidate_name a)) (decided_differ (candidate_name b) (candidate_name c))

same_package_of : (w : Scene) (a : Candidate) → Listing (Reads w a) → Listing (SamePackageOf w a)
same_package_of w a reads =
    listing_each (SamePackageWith w a) (Reads w a) reads (λ b rb.
    listing_each (SamePackageBy w a b) (λ p. Exports b p (candidate_name a)) (exported b (candidate_name a)) (λ p ex.
    listing_each (SamePackageTo w a b p) (Reads w a) reads (λ c rc.
    listing_if (Exports c p (candidate_name a) × Apart a b c) (candidate_name a, p, candidate_name b, candidate_name c)
    (decided_both (Exports c p (candidate_name a)) (Apart a b c) (decided_exports c p (candidate_name a)) (decided_apart a b c)))))

same_package_from : (w : Scene) (m : List ℕ × List ℕ × List ℕ × List ℕ) → (a : Candidate) × IsMember w a × SamePackageOf w a m → IsSamePackage w m
same_package_from w m (a, am, (b, rb, (p, xb, (c, rc, ((xc, n), is))))) =
    subst (IsSamePackage w) is (a, b, c, refl, (am, rb, xb), (am, rc, xc), refl, refl, n.0, n.1, n.2)

same_package_into : (w : Scene) (m : List ℕ × List ℕ × List ℕ × List ℕ) → IsSamePackage w m → (a : Candidate) × IsMember w a × SamePackageOf w a m
same_package_into w m (a, b, c, ea, gb, gc, eb, ec, n, o, d) =
    (a, gb.0, (b, gb.1, (m.1, gb.2, (c, gc.1, ((gc.2, (λ e. n (sym eb ∙ e ∙ ea), λ e. o (sym ec ∙ e ∙ ea), λ e. d (sym eb ∙ e ∙ ec))), λ i. (ea i, m.1, eb i, ec i))))))

pub same_package_listed : (w : Scene) → Lists w → Listing (IsSamePackage w)
same_package_listed w lists =
    listing_same (λ m. (a : Candidate) × IsMember w a × SamePackageOf w a m) (IsSamePackage w) (same_package_from w) (same_package_into w)
    (listing_each (SamePackageOf w) (IsMember w) lists.members (λ a am. same_package_of w a (lists.reads a am)))

abbrev OwnPackageBy : Scene → Candidate → Candidate → List ℕ → List ℕ × List ℕ × List ℕ → Type 0
OwnPackageBy w a b p m = (Holds a p × (candidate_name b ≢ candidate_name a)) × ((candidate_name a, p, candidate_name b) ≡ m)

abbrev OwnPackageWith : Scene → Candidate → Candidate → List ℕ × List ℕ × List ℕ → Type 0
OwnPackageWith w a b m = (p : List ℕ) × Exports b p (candidate_name a) × OwnPackageBy w a b p m

abbrev OwnPackageOf : Scene → Candidate → List ℕ × List ℕ × List ℕ → Type 0
OwnPackageOf w a m = (b : Candidate) × Reads w a b × OwnPackageWith w a b m

own_package_of : (w : Scene) (a : Candidate) → Listing (Reads w a) → Listing (OwnPackageOf w a)
own_package_of w a reads =
    listing_each (OwnPackageWith w a) (Reads w a) reads (λ b rb.
    listing_each (OwnPackageBy w a b) (λ p. Exports b p (candidate_name a)) (exported b (candidate_name a)) (λ p ex.
    listing_if (Holds a p × (candidate_name b ≢ candidate_name a)) (candidate_name a, p, candidate_name b)
    (decided_both (Holds a p) (candidate_name b ≢ candidate_name a) (decided_contains a.observed.declaration.packages p) (decided_differ (candidate_name b) (candidate_name a)))))

own_package_from : (w : Scene) (m : List ℕ × List ℕ × List ℕ) → (a : Candidate) × IsMember w a × OwnPackageOf w a m → IsOwnPackage w m
own_package_from w m (a, am, (b, rb, (p, xb, ((h, n), is)))) = subst (IsOwnPackage w) is (a, b, refl, h, (am, rb, xb), refl, n)

own_package_into : (w : Scene) (m : List ℕ × List ℕ × List ℕ) → IsOwnPackage w m → (a : Candidate) × IsMember w a × OwnPackageOf w a m
own_package_into w m (a, b, ea, h, g, eb, n) = (a, g.0, (b, g.1, (m.1, g.2, ((h, λ e. n (sym eb ∙ e ∙ ea)), λ i. (ea i, m.1, eb i)))))

pub own_package_listed : (w : Scene) → Lists w → Listing (IsOwnPackage w)
own_package_listed w lists =
    listing_same (λ m. (a : Candidate) × IsMember w a × OwnPackageOf w a m) (IsOwnPackage w) (own_package_from w) (own_package_into w)
    (listing_each (OwnPackageOf w) (IsMember w) lists.members (λ a am. own_package_of w a (lists.reads a am)))

-- ---- services

decided_sees : (w : Scene) (a : Candidate) → IsMember w a → Listing (Reads w a) → (p : List ℕ) → Decided (Sees w a p)
decided_sees w a am reads p =
    decided_either (Holds a p) ((b : Candidate) × Gets w a b p) (decided_contains a.observed.declaration.packages p)
    (decided_same ((b : Candidate) × (Reads w a b × Exports b p (candidate_name a))) ((b : Candidate) × Gets w a b p)
    (λ k. (k.0, (am, k.1.0, k.1.1))) (λ k. (k.0, (k.1.1, k.1.2)))
    (decided_some (λ b. Reads w a b × Exports b p (candidate_name a))
    (listing_where (Reads w a) (λ b. Exports b p (candidate_name a)) reads (λ b r. decided_exports b p (candidate_name a)))))

abbrev ServiceBy : Scene → Candidate → List ℕ → List ℕ × List ℕ → Type 0
ServiceBy w a service m = (Sees w a (package_of service) → ⊥) × ((candidate_name a, service) ≡ m)

abbrev ServiceOf : Scene → Candidate → List ℕ × List ℕ → Type 0
ServiceOf w a m = (service : List ℕ) × (Uses a service ⊎ IsProvidedBy a service) × ServiceBy w a service m

service_of : (w : Scene) (a : Candidate) → IsMember w a → Listing (Reads w a) → Listing (ServiceOf w a)
service_of w a am reads =
    listing_each (ServiceBy w a) (λ service. Uses a service ⊎ IsProvidedBy a service) (services a) (λ service k.
    listing_if (Sees w a (package_of service) → ⊥) (candidate_name a, service)
    (decided_not (Sees w a (package_of service)) (decided_sees w a am reads (package_of service))))

service_from : (w : Scene) (m : List ℕ × List ℕ) → (a : Candidate) × IsMember w a × ServiceOf w a m → IsServicePackage w m
service_from w m (a, am, (service, k, (n, is))) = subst (IsServicePackage w) is (a, am, refl, k, n)

service_into : (w : Scene) (m : List ℕ × List ℕ) → IsServicePackage w m → (a : Candidate) × IsMember w a × ServiceOf w a m
service_into w m (a, am, ea, k, n) = (a, am, (m.1, k, (n, λ i. (ea i, m.1))))

pub service_listed : (w : Scene) → Lists w → Listing (IsServicePackage w)
service_listed w lists =
    listing_same (λ m. (a : Candidate) × IsMember w a × ServiceOf w a m) (IsServicePackage w) (service_from w) (service_into w)
    (listing_each (ServiceOf w) (IsMember w) lists.members (λ a am. service_of w a am (lists.reads a am)))

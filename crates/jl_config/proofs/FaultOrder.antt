-- The order of refusals, of modules and of reads: each is total, and where two tie they are the same.
use Rattle.std.proofs.Common.{◌≡◌, ◌<◌, ℕ, zero, suc, List, [], ◌∷◌, refl, sym, ◌∙◌, ap, subst, Option, Some, None, Ordering, Less, Equal, Greater, nat_cmp}
use Rattle.std.specs.Option.{option_cmp}
use Rattle.std.specs.Ordering.{ordering_then}
use Rattle.std.specs.Cmp.{IsTotalOrder}
use Rattle.std.specs.Cmp.Lexicographic.{options_total, nat_list_cmp_total}
use Rattle.std.proofs.lemmas.Cmp.{on_total, then_total, nat_cmp_total, lists_total, ranked, by_ranked}
use Rattle.jl_prim.specs.declared.declaration.Observed.{Observed}
use Rattle.jl_logic.specs.Order.{name_cmp, optional_cmp}
use Rattle.jl_logic.proofs.Rising.{apart_from_total}
use Rattle.jl_config.specs.declared.configuration.Read.{Read}
use Rattle.jl_config.specs.declared.fault.ResolveFault.{ResolveFault}
use Rattle.jl_config.specs.declared.fault.ResolveFault.TheVariants.{NoParents, NotFound, TooMany, Cycle, SameName, SamePackage, OwnPackage, ServicePackage, NoMemory}
use Rattle.jl_config.specs.Located.{name_of, candidate_name}
use Rattle.jl_config.specs.Orders.{module_cmp, candidate_cmp, read_cmp}
use Rattle.jl_config.specs.Refusals.{rank, fields, fields_cmp, fault_cmp}
use Rattle.jl_config.proofs.Names.{names_exact}
use Rattle.jl_config.specs.MissingNames.{lack_cmp}

-- ---- totality

optional_is : (a b : Option (List ℕ)) → option_cmp name_cmp a b ≡ optional_cmp a b
optional_is None None = refl
optional_is None (Some b) = refl
optional_is (Some a) None = refl
optional_is (Some a) (Some b) = refl

optional_total : IsTotalOrder optional_cmp
optional_total = subst IsTotalOrder (λ i a b. optional_is a b i) (options_total nat_list_cmp_total)

pub lack_total : IsTotalOrder lack_cmp
lack_total = then_total (on_total (λ (m : List ℕ × Option (List ℕ)). m.0) nat_list_cmp_total) (on_total (λ (m : List ℕ × Option (List ℕ)). m.1) optional_total)

pub fault_total : IsTotalOrder fault_cmp
fault_total = then_total (on_total rank nat_cmp_total) (on_total fields (lists_total optional_total))

pub modules_total : IsTotalOrder module_cmp
modules_total = on_total name_of nat_list_cmp_total

pub candidates_total : IsTotalOrder candidate_cmp
candidates_total = on_total candidate_name nat_list_cmp_total

pub reads_total : IsTotalOrder read_cmp
reads_total = then_total (on_total (λ (r : Read). r.reader) nat_list_cmp_total) (on_total (λ (r : Read). r.name) nat_list_cmp_total)

pub modules_apart : (x y : Observed) → module_cmp x y ≡ Less → module_cmp y x ≡ Less → ⊥
modules_apart = apart_from_total module_cmp modules_total

pub reads_apart : (x y : Read) → read_cmp x y ≡ Less → read_cmp y x ≡ Less → ⊥
reads_apart = apart_from_total read_cmp reads_total

-- ---- what ties is the same

-- both parts of an order by two parts tie
both_tie : {A : Type 0} (r s : Ordering) → ordering_then r s ≡ Equal → (r ≡ Equal → s ≡ Equal → A) → A
both_tie Less s e k = absurd cc
both_tie Equal s e k = k refl e
both_tie Greater s e k = absurd cc

pub reads_exact : {A : Type 0} (r s : Read) → read_cmp r s ≡ Equal → (r.reader ≡ s.reader → r.name ≡ s.name → A) → A
reads_exact r s e k = both_tie (name_cmp r.reader s.reader) (name_cmp r.name s.name) e (λ f g. k (names_exact r.reader s.reader f) (names_exact r.name s.name g))

optional_exact : (a b : Option (List ℕ)) → optional_cmp a b ≡ Equal → a ≡ b
optional_exact None None e = refl
optional_exact None (Some b) e = absurd cc
optional_exact (Some a) None e = absurd cc
optional_exact (Some a) (Some b) e = ap Some (names_exact a b e)

fields_exact : (fs gs : List (Option (List ℕ))) → fields_cmp fs gs ≡ Equal → fs ≡ gs
fields_exact [] [] e = refl
fields_exact [] (b ∷ gs) e = absurd cc
fields_exact (a ∷ fs) [] e = absurd cc
fields_exact (a ∷ fs) (b ∷ gs) e = both_tie (optional_cmp a b) (fields_cmp fs gs) e (λ t u i. optional_exact a b t i ∷ fields_exact fs gs u i)

ranks_exact : (a b : ℕ) → nat_cmp a b ≡ Equal → a ≡ b
ranks_exact a b e = by_ranked (a < b) (a ≡ b) (b < a) (nat_cmp a b) (ranked a b (nat_cmp a b) refl) (λ f l. absurd cc) (λ f s. s) (λ f l. absurd cc)

-- ---- a refusal from its rank and its fields

abbrev taken : Option (List ℕ) → List ℕ
taken None = []
taken (Some name) = name

abbrev field : ℕ → List (Option (List ℕ)) → Option (List ℕ)
field k [] = None
field zero (a ∷ fs) = a
field (suc k) (a ∷ fs) = field k fs

abbrev made : ℕ → List (Option (List ℕ)) → ResolveFault
made zero fs = NoParents
made (suc zero) fs = NotFound (taken (field 0 fs)) (field 1 fs)
made (suc (suc zero)) fs = TooMany
made (suc (suc (suc zero))) fs = Cycle (taken (field 0 fs))
made (suc (suc (suc (suc zero)))) fs = SameName (taken (field 0 fs)) (taken (field 1 fs))
made (suc (suc (suc (suc (suc zero))))) fs = SamePackage (taken (field 0 fs)) (taken (field 1 fs)) (taken (field 2 fs)) (taken (field 3 fs))
made (suc (suc (suc (suc (suc (suc zero)))))) fs = OwnPackage (taken (field 0 fs)) (taken (field 1 fs)) (taken (field 2 fs))
made (suc (suc (suc (suc (suc (suc (suc zero))))))) fs = ServicePackage (taken (field 0 fs)) (taken (field 1 fs))
made (suc (suc (suc (suc (suc (suc (suc (suc k)))))))) fs = NoMemory

made_again : (f : ResolveFault) → made (rank f) (fields f) ≡ f
made_again NoParents = refl
made_again (NotFound name by) = refl
made_again TooMany = refl
made_again (Cycle least) = refl
made_again (SameName reader name) = refl
made_again (SamePackage reader p one other) = refl
made_again (OwnPackage reader p other) = refl
made_again (ServicePackage name service) = refl
made_again NoMemory = refl

pub fault_exact : (f g : ResolveFault) → fault_cmp f g ≡ Equal → f ≡ g
fault_exact f g e =
    both_tie (nat_cmp (rank f) (rank g)) (fields_cmp (fields f) (fields g)) e
    (λ r s. sym (made_again f) ∙ (λ i. made (ranks_exact (rank f) (rank g) r i) (fields_exact (fields f) (fields g) s i)) ∙ made_again g)

-- ---- refusals of one kind

pub not_found_cmp : (n : List ℕ) (b : Option (List ℕ)) (m : List ℕ) (c : Option (List ℕ)) → fault_cmp (NotFound n b) (NotFound m c) ≡ lack_cmp (n, b) (m, c)
not_found_cmp n b m c = by (name_cmp n m) (optional_cmp b c) refl refl
  where
    by : (r s : Ordering) → name_cmp n m ≡ r → optional_cmp b c ≡ s → fault_cmp (NotFound n b) (NotFound m c) ≡ lack_cmp (n, b) (m, c)
    by Less s e f = rw e refl
    by Equal Less e f = rw (e, f) refl
    by Equal Equal e f = rw (e, f) refl
    by Equal Greater e f = rw (e, f) refl
    by Greater s e f = rw e refl

pub cycle_cmp : (n m : List ℕ) → fault_cmp (Cycle n) (Cycle m) ≡ name_cmp n m
cycle_cmp n m = by (name_cmp n m) refl
  where
    by : (r : Ordering) → name_cmp n m ≡ r → fault_cmp (Cycle n) (Cycle m) ≡ name_cmp n m
    by Less e = rw e refl
    by Equal e = rw e refl
    by Greater e = rw e refl

-- Worked rows of the definitions: packages b, p and q, and the class T of each.
use Rattle.std.proofs.Common.{◌≡◌, ℕ, zero, suc, List, [], ◌∷◌, Bool, true, false, if◌then◌else◌, Option, Some, None, inl, inr, ⊎_elim, refl, sym, ◌∙◌, ap, lit<, arith}
use Rattle.std.specs.Prelude.{codes}
use Rattle.std.specs.Option.{option_or}
use Rattle.jl_logic.specs.Order.{is_text}
use Rattle.jl_names.specs.Names.{package_of}
use Rattle.jl_prim.specs.declared.numbers.ModuleId.{ModuleId}
use Rattle.jl_prim.specs.declared.numbers.LoaderId.{LoaderId}
use Rattle.jl_prim.specs.declared.declaration.ParentLoader.{ParentLoader}
use Rattle.jl_prim.specs.declared.declaration.ParentLoader.TheVariants.{Null, Loader}
use Rattle.jl_loaders.specs.declared.constraint.Constraint.{Constraint}
use Rattle.jl_loaders.specs.Loaders.{State, Parts, IsMap, lead, lead_by}
use Rattle.jl_loaders.specs.Laws.{Grows}
use Rattle.jl_loaders.specs.Constraints.{constraint, IsEntry, IsViolated, with_constraint, Clashes}

abbrev m : ℕ → ModuleId
m n = record { 0 = n }

abbrev loader : ℕ → LoaderId
loader n = record { 0 = n }

abbrev pair : List ℕ → ℕ → List ℕ × ModuleId
pair p n = (p, m n)

abbrev parts : List (List ℕ × ModuleId) → List (List ℕ × ModuleId) → ParentLoader → Parts
parts own seen parent = record { own = own; seen = seen; parent = parent }

abbrev among : List Parts → Option ModuleId → List Constraint → State
among ls base cs = record { loaders = ls; base = base; constraints = cs; spare = 0 }

-- ---- leads: module 1 is java.base and has b, module 5 beside it has q

abbrev some_loaders : List Parts
some_loaders =
    parts (pair (codes "b") 1 ∷ pair (codes "q") 5 ∷ []) [] Null
    ∷ parts (pair (codes "p") 2 ∷ pair (codes "p") 7 ∷ []) (pair (codes "p") 9 ∷ pair (codes "q") 3 ∷ []) (Loader (loader 1))
    ∷ parts [] [] (Loader (loader 2))
    ∷ parts [] [] Null
    ∷ []

own_before_seen : lead (among some_loaders (Some (m 1)) []) (loader 2) (codes "p/T") ≡ Some (m 2)
unfolding lead_by package_of
own_before_seen = refl

seen_before_the_parent : lead (among some_loaders (Some (m 1)) []) (loader 2) (codes "q/T") ≡ Some (m 3)
unfolding lead_by package_of
seen_before_the_parent = refl

by_two_parents : lead (among some_loaders (Some (m 1)) []) (loader 3) (codes "b/T") ≡ Some (m 1)
unfolding lead_by package_of
by_two_parents = refl

a_null_parent : lead (among some_loaders (Some (m 1)) []) (loader 4) (codes "b/T") ≡ Some (m 1)
unfolding lead_by package_of
a_null_parent = refl

-- loader 1 has the package for another module
not_of_java_base : lead (among some_loaders (Some (m 1)) []) (loader 4) (codes "q/T") ≡ None
unfolding lead_by package_of
not_of_java_base = refl

no_java_base : lead (among some_loaders None []) (loader 4) (codes "b/T") ≡ None
unfolding lead_by package_of
no_java_base = refl

nowhere : lead (among some_loaders (Some (m 1)) []) (loader 3) (codes "r/T") ≡ None
unfolding lead_by package_of
nowhere = refl

-- ---- growth: java.base is said before there is a loader, and stays from then on

base_is_said : Grows (among [] None []) (among [] (Some (m 1)) [])
base_is_said = record { loaders = ([], refl); base = inl refl }

base_is_kept : Grows (among some_loaders None []) (among some_loaders (Some (m 1)) []) → ⊥
base_is_kept h = ⊎_elim (λ e. absurd cc) (λ e. absurd cc) h.base

-- ---- a map: the first module of a package, own before seen

a_map : IsMap (parts (pair (codes "p") 2 ∷ pair (codes "p") 7 ∷ []) (pair (codes "q") 3 ∷ pair (codes "p") 9 ∷ []) Null) (pair (codes "p") 2 ∷ pair (codes "q") 3 ∷ [])
a_map = record { rises = ((refl, tt), (tt, tt)); gives = λ p. by (is_text (codes "p") p) (is_text (codes "q") p) }
  where
    by : (s t : Bool) → (if s then Some (m 2) else (if t then Some (m 3) else None)) ≡ option_or (if s then Some (m 2) else (if s then Some (m 7) else None)) (if t then Some (m 3) else (if s then Some (m 9) else None))
    by true t = refl
    by false true = refl
    by false false = refl

-- ---- constraints: loaders 1 and 2 lead p to module 1, loader 3 leads it nowhere, loader 4 to module 4

abbrev three : List Parts
three = parts (pair (codes "p") 1 ∷ []) [] Null ∷ parts [] (pair (codes "p") 1 ∷ []) Null ∷ parts [] [] Null ∷ []

abbrev four : List Parts
four = parts (pair (codes "p") 1 ∷ []) [] Null ∷ parts [] (pair (codes "p") 1 ∷ []) Null ∷ parts [] [] Null ∷ parts (pair (codes "p") 4 ∷ []) [] Null ∷ []

abbrev two_entries : List Constraint
two_entries = constraint (codes "p/T") (loader 1) (loader 2) ∷ constraint (codes "p/T") (loader 2) (loader 3) ∷ []

first_with_second : IsEntry two_entries (codes "p/T") (loader 2) (loader 1)
first_with_second = inr (0, lit< tt, refl)

second_with_third : IsEntry two_entries (codes "p/T") (loader 2) (loader 3)
second_with_third = inl (1, lit< tt, refl)

one_is_not_four : m 1 ≡ m 4 → ⊥
one_is_not_four e = let f : ◌≡◌ {A = ℕ} 1 4 = ap (λ (x : ModuleId). x.0) e in omega arith

-- a third entry clashes: the loaders 3, 2 and 1 are joined
a_clash : Clashes (among four None two_entries) (codes "p/T") (loader 3) (loader 4) (m 1) (m 4)
unfolding lead_by package_of
a_clash = record {
  first = (loader 1, (2, (loader 2, (loader 3, refl, inr (1, lit< tt, refl)), inr (0, lit< tt, refl))), refl);
  second = (loader 4, (0, refl), refl);
  apart = one_is_not_four;
}

violated : IsViolated (with_constraint (codes "p/T") (loader 3) (loader 4) (among four None two_entries))
unfolding lead_by package_of
violated = (
  codes "p/T",
  loader 1,
  m 1,
  m 4,
  refl,
  (loader 4, (3, (loader 3, (loader 2, (loader 1, refl, inl (0, lit< tt, refl)), inl (1, lit< tt, refl)), inl (2, lit< tt, refl))), refl),
  one_is_not_four,
)

-- the two entries alone do not clash, since all that leads leads to module 1
only_one : (a : LoaderId) (name : List ℕ) (n : ModuleId) → lead (among three None two_entries) a name ≡ Some n → n ≡ m 1
unfolding lead_by
only_one a name n e = by a.0 e
  where
    of_test : (b : Bool) → option_or (option_or (if b then Some (m 1) else None) None) None ≡ Some n → n ≡ m 1
    of_test true f = cc
    of_test false f = absurd cc

    of_seen : (b : Bool) → option_or (if b then Some (m 1) else None) None ≡ Some n → n ≡ m 1
    of_seen true f = cc
    of_seen false f = absurd cc

    by : (k : ℕ) → lead_by k (among three None two_entries) (Loader (loader k)) (package_of name) ≡ Some n → n ≡ m 1
    by zero f = absurd cc
    by (suc zero) f = of_test (is_text (codes "p") (package_of name)) f
    by (suc (suc zero)) f = of_seen (is_text (codes "p") (package_of name)) f
    by (suc (suc (suc zero))) f = absurd cc
    by (suc (suc (suc (suc k)))) f = absurd cc

not_violated : IsViolated (among three None two_entries) → ⊥
not_violated (name, a, n, o, e, (b, j, f), apart) = apart (only_one a name n e ∙ sym (only_one b name o f))

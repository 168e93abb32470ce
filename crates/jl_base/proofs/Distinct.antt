-- Lists in which a test finds no item twice.
use Rattle.std.proofs.Common.{◌≡◌, List, [], ◌∷◌, Bool, true, false, IsTrue, sym, inl, inr, arith}
use Rattle.std.specs.Prelude.{Contains, not, ◌&&◌}
use Rattle.std.specs.List.{list_any}
use Rattle.std.proofs.lemmas.List.Elements.{Contains-append_cases}
use Rattle.std.proofs.lemmas.Bool.{and_parts, or_parts, not-true, both_ways}
use Rattle.jl_logic.specs.Lists.{AreDistinct}
use Rattle.jl_logic.proofs.Apart.{single}

abbrev pub finds_none_twice : {X : Type 0} → (X → X → Bool) → List X → Bool
finds_none_twice test [] = true
finds_none_twice test (x ∷ xs) = not (list_any (test x) xs) && finds_none_twice test xs

absent : {X : Type 0} (test : X → X → Bool) → ((a b : X) → a ≡ b → test a b ≡ true) → (x : X) (xs : List X) → list_any (test x) xs ≡ false → Contains xs x → ⊥
absent test same x [] e c = absurd (omega (arith, c.1))
absent test same x (y ∷ ys) e c =
    let none = or_parts (test x y) (list_any (test x) ys) e in
    elim (Contains-append_cases (y ∷ []) ys x c) [
      | inl here ↦ both_ways (test x y) none.0 (same x y (sym (single y x here)))
      | inr there ↦ absent test same x ys none.1 there
    ]

pub distinct_by : {X : Type 0} (test : X → X → Bool) → ((a b : X) → a ≡ b → test a b ≡ true) → (xs : List X) → IsTrue (finds_none_twice test xs) → AreDistinct xs
distinct_by test same [] h = tt
distinct_by test same (x ∷ xs) h =
    let a = and_parts _ _ h in
    (absent test same x xs (not-true _ a.0), distinct_by test same xs a.1)

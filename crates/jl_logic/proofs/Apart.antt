-- Lists in which no item is there twice.
use Rattle.std.proofs.Common.{◌≡◌, zero, suc, List, [], ◌∷◌, ◌++◌, sym, inl, inr, arith}
use Rattle.std.specs.Prelude.{Contains}
use Rattle.std.proofs.lemmas.List.Elements.{Contains-push_cases, Contains-append_cases, Contains-append_right}
use Rattle.jl_logic.specs.Lists.{AreDistinct}

pub contains_first : {X : Type 0} (x y : X) (xs : List X) → y ≡ x → Contains (y ∷ xs) x
contains_first x y xs e = (0, omega arith, e)

-- the only item
pub single : {X : Type 0} (y x : X) → Contains (y ∷ []) x → y ≡ x
single y x (zero, l, e) = e
single y x (suc k, l, e) = absurd (omega arith)

-- one more item, which is none of those before it
pub distinct_push : {X : Type 0} (xs : List X) (x : X) → AreDistinct xs → (Contains xs x → ⊥) → AreDistinct (xs ++ x ∷ [])
distinct_push [] x d n = ((λ c. absurd (omega (arith, c.1))), tt)
distinct_push (y ∷ ys) x d n =
    let apart : Contains (ys ++ x ∷ []) y → ⊥ = λ c. elim (Contains-push_cases ys x y c) [
      | inl there ↦ d.0 there
      | inr same ↦ n (contains_first x y ys (sym same))
    ] in
    (apart, distinct_push ys x d.1 (λ c. n (Contains-append_right (y ∷ []) ys x c)))

-- each item is none of those before it
pub distinct_apart : {X : Type 0} (xs : List X) (x : X) (ys : List X) → AreDistinct (xs ++ x ∷ ys) → Contains xs x → ⊥
distinct_apart [] x ys d c = absurd (omega (arith, c.1))
distinct_apart (y ∷ zs) x ys d c = elim (Contains-append_cases (y ∷ []) zs x c) [
  | inl here ↦ d.0 (Contains-append_right zs (x ∷ ys) y (contains_first y x ys (sym (single y x here))))
  | inr there ↦ distinct_apart zs x ys d.1 there
]

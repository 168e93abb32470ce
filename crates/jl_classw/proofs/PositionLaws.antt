-- The first place of what has a property.
use Rattle.std.proofs.Common.{◌≡◌, ℕ, suc, ◌+◌, ◌<◌, ◌≤◌, Bool, true, false, cond, ltb, List, [], ◌∷◌, ◌++◌, length, slice_get, None, Some, refl, sym, ap, ◌∙◌, arith, inl, inr}
use Rattle.std.specs.Prelude.{position}
use Rattle.std.specs.List.{position_or_len}
use Rattle.std.proofs.lemmas.Bool.{cases_Bool, ltb-true, ltb-false, lt-ltb, le-ltb}
use Rattle.std.proofs.lemmas.List.{length-append}

module _ {X : Type 0} (p : X → Bool) where
  some_is : (i j : ℕ) → Some i ≡ Some j → i ≡ j
  some_is i j e = cc

  place_cases : (b : Bool) (i j : ℕ) → cond b (Some i) None ≡ Some j → (b ≡ true) × (i ≡ j)
  place_cases true i j e = (refl, some_is i j e)
  place_cases false i j e = absurd cc

  no_place : (b : Bool) (i : ℕ) → cond b (Some i) None ≡ None → b ≡ false
  no_place true i e = absurd cc
  no_place false i e = refl

  left_len : (xs ys : List X) → position_or_len p xs < length xs → position_or_len p (xs ++ ys) ≡ position_or_len p xs
  left_len [] ys lt = absurd (omega arith)
  left_len (x ∷ xs) ys lt = elim (cases_Bool (p x)) [
    | inl t ↦ rw t refl
    | inr f ↦ rw f (let h : position_or_len p xs < length xs = (let g : 1 + position_or_len p xs < length (x ∷ xs) = (rw f at lt) in omega (arith, g)) in ap (λ (n : ℕ). 1 + n) (left_len xs ys h))
  ]

  right_len : (xs ys : List X) → length xs ≤ position_or_len p xs → position_or_len p (xs ++ ys) ≡ length xs + position_or_len p ys
  right_len [] ys le = omega arith
  right_len (x ∷ xs) ys le = elim (cases_Bool (p x)) [
    | inl t ↦ absurd (let g : length (x ∷ xs) ≤ 0 = (rw t at le) in omega (arith, g))
    | inr f ↦ rw f (let g : length (x ∷ xs) ≤ 1 + position_or_len p xs = (rw f at le) in let h = right_len xs ys (omega (arith, g)) in omega (arith, h))
  ]

  pub position_left : (xs ys : List X) (i : ℕ) → Some i ≡ position p xs → Some i ≡ position p (xs ++ ys)
  position_left xs ys i e =
      let c = place_cases (ltb (position_or_len p xs) (length xs)) (position_or_len p xs) i (sym e) in
      let lt = ltb-true (position_or_len p xs) (length xs) c.0 in
      let len = length-append xs ys in
      let same = left_len xs ys lt in
      let there : ltb (position_or_len p (xs ++ ys)) (length (xs ++ ys)) ≡ true = lt-ltb _ _ (omega (arith, lt, len, same)) in
      rw there (ap (λ (n : ℕ). Some n) (sym (same ∙ c.1)))

  pub position_right : (xs ys : List X) (i : ℕ) → None ≡ position p xs → Some i ≡ position p ys → Some (length xs + i) ≡ position p (xs ++ ys)
  position_right xs ys i n e =
      let le = ltb-false (position_or_len p xs) (length xs) (no_place (ltb (position_or_len p xs) (length xs)) (position_or_len p xs) (sym n)) in
      let c = place_cases (ltb (position_or_len p ys) (length ys)) (position_or_len p ys) i (sym e) in
      let lt = ltb-true (position_or_len p ys) (length ys) c.0 in
      let is = c.1 in
      let len = length-append xs ys in
      let same = right_len xs ys le in
      let there : ltb (position_or_len p (xs ++ ys)) (length (xs ++ ys)) ≡ true = lt-ltb _ _ (omega (arith, lt, len, same)) in
      rw there (ap (λ (n : ℕ). Some n) (omega (arith, same, is)))

  pub position_none : (xs ys : List X) → None ≡ position p xs → None ≡ position p ys → None ≡ position p (xs ++ ys)
  position_none xs ys n e =
      let le = ltb-false (position_or_len p xs) (length xs) (no_place (ltb (position_or_len p xs) (length xs)) (position_or_len p xs) (sym n)) in
      let more = ltb-false (position_or_len p ys) (length ys) (no_place (ltb (position_or_len p ys) (length ys)) (position_or_len p ys) (sym e)) in
      let len = length-append xs ys in
      let same = right_len xs ys le in
      let past : ltb (position_or_len p (xs ++ ys)) (length (xs ++ ys)) ≡ false = le-ltb _ _ (omega (arith, more, len, same)) in
      rw past refl

  later : (x : X) (xs : List X) → p x ≡ false → position_or_len p (x ∷ xs) ≡ suc (position_or_len p xs)
  later x xs f = rw f (omega arith)

  there_later : (x : X) (xs : List X) (y : X) → p x ≡ false → slice_get xs (position_or_len p xs) ≡ Some y → slice_get (x ∷ xs) (position_or_len p (x ∷ xs)) ≡ Some y
  there_later x xs y f e = ap (slice_get (x ∷ xs)) (later x xs f) ∙ e

  there_now : (x : X) (xs : List X) → p x ≡ true → slice_get (x ∷ xs) (position_or_len p (x ∷ xs)) ≡ Some x
  there_now x xs t = rw t refl

  there_len : (xs : List X) → position_or_len p xs < length xs → (x : X) × (slice_get xs (position_or_len p xs) ≡ Some x) × (p x ≡ true)
  there_len [] lt = absurd (omega arith)
  there_len (x ∷ xs) lt = elim (cases_Bool (p x)) [
    | inl t ↦ (x, there_now x xs t, t)
    | inr f ↦
        let same = later x xs f in
        let h = there_len xs (omega (arith, lt, same)) in
        (h.0, there_later x xs h.0 f h.1, h.2)
  ]

  -- what stands at the place has the property
  pub position_there : (xs : List X) (i : ℕ) → position p xs ≡ Some i → (x : X) × (slice_get xs i ≡ Some x) × (p x ≡ true)
  position_there xs i e =
      let c = place_cases (ltb (position_or_len p xs) (length xs)) (position_or_len p xs) i e in
      let h = there_len xs (ltb-true (position_or_len p xs) (length xs) c.0) in
      (h.0, ap (slice_get xs) (sym c.1) ∙ h.1, h.2)

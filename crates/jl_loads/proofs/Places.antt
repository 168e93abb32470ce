-- Lists of any items: numbers, fronts, and the first place that passes a test.
use Rattle.std.proofs.Common.{◌≡◌, ◌<◌, ◌≤◌, ◌+◌, ◌⊎◌, ℕ, zero, suc, List, [], ◌∷◌, ◌++◌, length, length-append, append_assoc, slice_get, take, Some, None, Bool, true, false, cond, inl, inr, refl, sym, ◌∙◌, ap, ap₂, arith}
use Rattle.std.specs.List.{flat_map, position_from}
use Rattle.std.proofs.lemmas.List.{append-nil}
use Rattle.std.proofs.lemmas.Option.{none-some, same_Some, slice_get_within}
use Rattle.std.specs.Prelude.{Contains}
use Rattle.jl_logic.specs.Lists.{IsFront}
use Rattle.jl_logic.proofs.Rising.{contains_head, contains_tail}
use Rattle.jl_layer.specs.Layers.{numbered}

module _ {X : Type 0} where
  -- ---- fronts

  pub front_same : (xs : List X) → IsFront xs xs
  front_same xs = ([], sym (append-nil xs))

  pub front_onward : (xs ys zs : List X) → IsFront xs ys → IsFront ys zs → IsFront xs zs
  front_onward xs ys zs a b = (a.0 ++ b.0, b.1 ∙ ap (λ (l : List X). l ++ b.0) a.1 ∙ append_assoc xs a.0 b.0)

  pub front_long : (xs ys : List X) → IsFront xs ys → length xs ≤ length ys
  front_long xs ys front = omega (arith, ap length front.1, length-append xs front.0)

  -- ---- numbers

  pub numbered_there : (xs : List X) (n : ℕ) (x : X) → numbered xs n ≡ Some x → (0 < n) × (n ≤ length xs)
  numbered_there xs zero x e = absurd (none-some x e)
  numbered_there xs (suc n) x e = let lt : n < length xs = slice_get_within xs n x e in (omega arith, omega arith)

  pub numbered_in : (xs : List X) (n : ℕ) → 0 < n → n ≤ length xs → (x : X) × (numbered xs n ≡ Some x)
  numbered_in xs zero lt le = absurd (omega arith)
  numbered_in [] (suc n) lt le = absurd (omega arith)
  numbered_in (x ∷ xs) (suc zero) lt le = (x, refl)
  numbered_in (x ∷ xs) (suc (suc n)) lt le = numbered_in xs (suc n) (omega arith) (omega arith)

  front_place : (xs ys : List X) (n : ℕ) → n < length xs → slice_get (xs ++ ys) n ≡ slice_get xs n
  front_place [] ys n lt = absurd (omega arith)
  front_place (x ∷ xs) ys zero lt = refl
  front_place (x ∷ xs) ys (suc n) lt = front_place xs ys n (omega arith)

  numbered_before : (xs ys : List X) (n : ℕ) → n ≤ length xs → numbered (xs ++ ys) n ≡ numbered xs n
  numbered_before xs ys zero le = refl
  numbered_before xs ys (suc n) le = front_place xs ys n (omega arith)

  -- what is there keeps its number
  pub numbered_kept : (xs ys : List X) (n : ℕ) → IsFront xs ys → n ≤ length xs → numbered ys n ≡ numbered xs n
  numbered_kept xs ys n front le = ap (λ (l : List X). numbered l n) front.1 ∙ numbered_before xs front.0 n le

  -- with one more, a number is one of before, or the last
  pub numbered_last : (xs : List X) (x y : X) (n : ℕ) → numbered (xs ++ x ∷ []) n ≡ Some y → (numbered xs n ≡ Some y) ⊎ ((n ≡ length xs + 1) × (x ≡ y))
  numbered_last xs x y zero e = inl e
  numbered_last [] x y (suc zero) e = inr (refl, same_Some x y e)
  numbered_last [] x y (suc (suc n)) e = absurd (none-some y e)
  numbered_last (z ∷ zs) x y (suc zero) e = inl e
  numbered_last (z ∷ zs) x y (suc (suc n)) e = elim (numbered_last zs x y (suc n) e) [
    | inl i ↦ inl i
    | inr i ↦ let j : suc n ≡ length zs + 1 = i.0 in inr (omega arith, i.1)
  ]

  take_before : (xs ys : List X) (n : ℕ) → n ≤ length xs → take n (xs ++ ys) ≡ take n xs
  take_before xs ys zero le = refl
  take_before [] ys (suc n) le = absurd (omega arith)
  take_before (x ∷ xs) ys (suc n) le = ap (λ (l : List X). x ∷ l) (take_before xs ys n (omega arith))

  pub take_kept : (xs ys : List X) (n : ℕ) → IsFront xs ys → n ≤ length xs → take n ys ≡ take n xs
  take_kept xs ys n front le = ap (take n) front.1 ∙ take_before xs front.0 n le

module _ {X : Type 0} (f : X → Bool) where
  -- ---- the first place that passes

  -- the place, with the item there
  from_found : (xs : List X) (a p : ℕ) → position_from f a xs ≡ Some p → (i : ℕ) × (x : X) × (p ≡ a + i) × (slice_get xs i ≡ Some x) × (f x ≡ true)
  from_found [] a p e = absurd (none-some p e)
  from_found (x ∷ xs) a p e = by (f x) refl e (from_found xs (a + 1) p)
    where
      by : (b : Bool) → f x ≡ b → cond b (Some a) (position_from f (a + 1) xs) ≡ Some p
          → (position_from f (a + 1) xs ≡ Some p → (i : ℕ) × (y : X) × (p ≡ a + 1 + i) × (slice_get xs i ≡ Some y) × (f y ≡ true))
          → (i : ℕ) × (y : X) × (p ≡ a + i) × (slice_get (x ∷ xs) i ≡ Some y) × (f y ≡ true)
      by true i e more = let same : a ≡ p = same_Some a p e in (0, x, omega arith, refl, i)
      by false i e more = let r = more e in let j : p ≡ a + 1 + r.0 = r.2 in (suc r.0, r.1, omega arith, r.3, r.4)

  from_none : (xs : List X) (a i : ℕ) (x : X) → position_from f a xs ≡ None → slice_get xs i ≡ Some x → f x ≡ false
  from_none [] a i x e g = absurd (none-some x g)
  from_none (y ∷ ys) a i x e g = by (f y) refl e i g (λ k. from_none ys (a + 1) k x)
    where
      by : (b : Bool) → f y ≡ b → cond b (Some a) (position_from f (a + 1) ys) ≡ None → (i : ℕ) → slice_get (y ∷ ys) i ≡ Some x
          → ((k : ℕ) → position_from f (a + 1) ys ≡ None → slice_get ys k ≡ Some x → f x ≡ false) → f x ≡ false
      by true h e i g more = absurd (none-some a (sym e))
      by false h e zero g more = ap f (sym (same_Some y x g)) ∙ h
      by false h e (suc i) g more = more i e g

  from_front : (xs ys : List X) (a p : ℕ) → position_from f a xs ≡ Some p → position_from f a (xs ++ ys) ≡ Some p
  from_front [] ys a p e = absurd (none-some p e)
  from_front (x ∷ xs) ys a p e = by (f x) e (from_front xs ys (a + 1) p)
    where
      by : (b : Bool) → cond b (Some a) (position_from f (a + 1) xs) ≡ Some p → (position_from f (a + 1) xs ≡ Some p → position_from f (a + 1) (xs ++ ys) ≡ Some p)
          → cond b (Some a) (position_from f (a + 1) (xs ++ ys)) ≡ Some p
      by true e more = e
      by false e more = more e

  from_past : (xs : List X) (a : ℕ) (x : X) → position_from f a xs ≡ None → position_from f a (xs ++ x ∷ []) ≡ cond (f x) (Some (a + length xs)) None
  from_past [] a x e = let z : a ≡ a + 0 = omega arith in ap (λ (n : ℕ). cond (f x) (Some n) None) z
  from_past (y ∷ ys) a x e = by (f y) e (from_past ys (a + 1) x)
    where
      by : (b : Bool) → cond b (Some a) (position_from f (a + 1) ys) ≡ None
          → (position_from f (a + 1) ys ≡ None → position_from f (a + 1) (ys ++ x ∷ []) ≡ cond (f x) (Some (a + 1 + length ys)) None)
          → cond b (Some a) (position_from f (a + 1) (ys ++ x ∷ [])) ≡ cond (f x) (Some (a + length (y ∷ ys))) None
      by true e more = absurd (none-some a (sym e))
      by false e more = let z : a + 1 + length ys ≡ a + length (y ∷ ys) = omega arith in more e ∙ ap (λ (n : ℕ). cond (f x) (Some n) None) z

  -- numbers are places from 1 on
  pub place_found : (xs : List X) (n : ℕ) → position_from f 1 xs ≡ Some n → (x : X) × (numbered xs n ≡ Some x) × (f x ≡ true)
  place_found xs n e = let r = from_found xs 1 n e in let same : n ≡ suc r.0 = omega (arith, r.2) in (r.1, ap (numbered xs) same ∙ r.3, r.4)

  pub no_place : (xs : List X) (i : ℕ) (x : X) → position_from f 1 xs ≡ None → slice_get xs i ≡ Some x → f x ≡ false
  no_place xs i x e g = from_none xs 1 i x e g

  pub place_front : (xs ys : List X) (n : ℕ) → IsFront xs ys → position_from f 1 xs ≡ Some n → position_from f 1 ys ≡ Some n
  place_front xs ys n front e = ap (position_from f 1) front.1 ∙ from_front xs front.0 1 n e

  -- behind a list where none passes, the last may
  pub place_last : (xs : List X) (x : X) → position_from f 1 xs ≡ None → position_from f 1 (xs ++ x ∷ []) ≡ cond (f x) (Some (length xs + 1)) None
  place_last xs x e = let same : 1 + length xs ≡ length xs + 1 = omega arith in from_past xs 1 x e ∙ ap (λ (n : ℕ). cond (f x) (Some n) None) same

module _ {X Y : Type 0} where
  pub flat_map_alike : (f g : X → List Y) (xs : List X) → ((x : X) → Contains xs x → f x ≡ g x) → flat_map f xs ≡ flat_map g xs
  flat_map_alike f g [] h = refl
  flat_map_alike f g (x ∷ xs) h =
      ap₂ (λ (y : List Y) (ys : List Y). y ++ ys) (h x (contains_head x xs)) (flat_map_alike f g xs (λ y c. h y (contains_tail x y xs c)))

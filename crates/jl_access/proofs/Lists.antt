-- Lists and booleans: what stands at a place, and tests of lists.
use Rattle.std.proofs.Common.{◌≡◌, ◌<◌, ℕ, zero, suc, List, [], ◌∷◌, ◌++◌, length, map, slice_get, Bool, true, false, ◌&&◌, ◌||◌, ◌==◌, Some, refl, sym, ◌∙◌, ap, ap₂, subst, arith}
use Rattle.std.specs.List.{list_any, AllByRecursion}
use Rattle.std.proofs.lemmas.Bool.{eq-eqb, eqb-true}

-- ---- booleans

pub both_ways : (r s : Bool) → (r ≡ true → s ≡ true) → (s ≡ true → r ≡ true) → r ≡ s
both_ways true s f g = sym (f refl)
both_ways false true f g = g refl
both_ways false false f g = refl

pub not_true : (b : Bool) → (b ≡ true → ⊥) → b ≡ false
not_true true f = absurd (f refl)
not_true false f = refl

pub and_false : (b : Bool) → (b && false) ≡ false
and_false true = refl
and_false false = refl

pub eqb_turned : (a b : ℕ) → (a == b) ≡ (b == a)
eqb_turned a b = both_ways (a == b) (b == a) (λ h. eq-eqb b a (sym (eqb-true a b h))) (λ h. eq-eqb a b (sym (eqb-true b a h)))

-- what `||` answers
pub or_then : (a b s : Bool) → s ≡ a → s ≡ true → s ≡ (a || b)
or_then a b s e f = f ∙ sym (ap (λ x. x || b) (sym e ∙ f))

pub or_else : (a b s r : Bool) → s ≡ a → s ≡ false → r ≡ b → r ≡ (a || b)
or_else a b s r e f g = g ∙ sym (ap (λ x. x || b) (sym e ∙ f))

-- ---- places

module _ {X : Type 0} where
  pub place_of : (xs : List X) (n : ℕ) → n < length xs → (x : X) × (slice_get xs n ≡ Some x)
  place_of [] n lt = absurd (omega arith)
  place_of (x ∷ xs) zero lt = (x, refl)
  place_of (x ∷ xs) (suc n) lt = place_of xs n (omega arith)

  pub each_at : (P : X → Type 0) (xs : List X) (n : ℕ) (x : X) → AllByRecursion P xs → slice_get xs n ≡ Some x → P x
  each_at P [] n x all e = absurd cc
  each_at P (y ∷ xs) zero x all e = let f : y ≡ x = cc in subst P f all.0
  each_at P (y ∷ xs) (suc n) x all e = each_at P xs n x all.1 e

  pub front_place : (xs ys : List X) (n : ℕ) → n < length xs → slice_get (xs ++ ys) n ≡ slice_get xs n
  front_place [] ys n lt = absurd (omega arith)
  front_place (x ∷ xs) ys zero lt = refl
  front_place (x ∷ xs) ys (suc n) lt = front_place xs ys n (omega arith)

-- ---- tests

module _ {X : Type 0} where
  pub any_place : (p : X → Bool) (xs : List X) (n : ℕ) (x : X) → slice_get xs n ≡ Some x → p x ≡ true → list_any p xs ≡ true
  any_place p [] n x e h = absurd cc
  any_place p (y ∷ xs) zero x e h = let f : y ≡ x = cc in ap (λ w. p w || list_any p xs) f ∙ ap (λ b. b || list_any p xs) h
  any_place p (y ∷ xs) (suc n) x e h = ap (λ b. p y || b) (any_place p xs n x e h) ∙ or_true (p y)
    where
      or_true : (b : Bool) → (b || true) ≡ true
      or_true true = refl
      or_true false = refl

  pub any_alike : (p q : X → Bool) (xs : List X) → ((x : X) → p x ≡ q x) → list_any p xs ≡ list_any q xs
  any_alike p q [] h = refl
  any_alike p q (x ∷ xs) h = ap₂ (λ a b. a || b) (h x) (any_alike p q xs h)

  pub any_never : (xs : List X) → list_any (λ x. false) xs ≡ false
  any_never [] = refl
  any_never (x ∷ xs) = any_never xs

  pub any_either : (p q : X → Bool) (xs : List X) → list_any (λ x. p x || q x) xs ≡ (list_any p xs || list_any q xs)
  any_either p q [] = refl
  any_either p q (x ∷ xs) = ap (λ b. (p x || q x) || b) (any_either p q xs) ∙ turned (p x) (q x) (list_any p xs) (list_any q xs)
    where
      turned : (a b c d : Bool) → ((a || b) || (c || d)) ≡ ((a || c) || (b || d))
      turned true b c d = refl
      turned false true true d = refl
      turned false true false d = refl
      turned false false c d = refl

-- a test of what is made of the items, where each has a property
pub any_made : {X Y : Type 0} (P : X → Type 0) (p : Y → Bool) (q : X → Bool) (f : X → Y) (xs : List X) → AllByRecursion P xs → ((x : X) → P x → p (f x) ≡ q x) → list_any p (map f xs) ≡ list_any q xs
any_made P p q f [] all h = refl
any_made P p q f (x ∷ xs) all h = ap₂ (λ a b. a || b) (h x all.0) (any_made P p q f xs all.1 h)

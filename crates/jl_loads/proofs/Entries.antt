-- Entries of a list by their keys, rows that are set in lists, and sums of parts.
use Rattle.std.proofs.Common.{◌≡◌, ◌<◌, ◌+◌, ◌⊎◌, ℕ, zero, suc, List, [], ◌∷◌, ◌++◌, map, take, slice_get, slice_set, Some, None, Bool, true, false, cond, inl, inr, refl, sym, ◌∙◌, ap, arith, sum}
use Rattle.std.specs.Prelude.{Contains}
use Rattle.std.specs.Map.{lookup}
use Rattle.std.specs.Option.{option_or}
use Rattle.std.proofs.lemmas.List.Sums.{sum_by-cons}
use Rattle.std.proofs.lemmas.Option.{none-some, same_Some}
use Rattle.jl_logic.proofs.Rising.{contains_head, contains_tail, contains_cases}

module _ {K X : Type 0} (p : K → Bool) where
  -- an entry of two lists is one of the first, or else of the second
  pub lookup_behind : (es fs : List (K × X)) → lookup p (es ++ fs) ≡ option_or (lookup p es) (lookup p fs)
  lookup_behind [] fs = refl
  lookup_behind (e ∷ es) fs = by (p e.0) (lookup_behind es fs)
    where
      by : (b : Bool) → lookup p (es ++ fs) ≡ option_or (lookup p es) (lookup p fs)
          → cond b (Some e.1) (lookup p (es ++ fs)) ≡ option_or (cond b (Some e.1) (lookup p es)) (lookup p fs)
      by true h = refl
      by false h = h

  -- the entry that is found is there, and its key passes
  pub lookup_there : (es : List (K × X)) (x : X) → lookup p es ≡ Some x → (e : K × X) × Contains es e × (p e.0 ≡ true) × (e.1 ≡ x)
  lookup_there [] x h = absurd (none-some x h)
  lookup_there (e ∷ es) x h = by (p e.0) refl h (lookup_there es x)
    where
      by : (b : Bool) → p e.0 ≡ b → cond b (Some e.1) (lookup p es) ≡ Some x
          → (lookup p es ≡ Some x → (d : K × X) × Contains es d × (p d.0 ≡ true) × (d.1 ≡ x))
          → (d : K × X) × Contains (e ∷ es) d × (p d.0 ≡ true) × (d.1 ≡ x)
      by true i h more = (e, contains_head e es, i, same_Some e.1 x h)
      by false i h more = let r = more h in (r.0, contains_tail e r.0 es r.1, r.2, r.3)

  -- where none is found, no key passes
  pub lookup_none : (es : List (K × X)) (k : K) → lookup p es ≡ None → Contains (map (λ (e : K × X). e.0) es) k → p k ≡ false
  lookup_none [] k h c = absurd (omega (arith, c.1))
  lookup_none (e ∷ es) k h c = by (p e.0) refl h (contains_cases e.0 k (map (λ (e : K × X). e.0) es) c) (λ n d. lookup_none es k n d)
    where
      by : (b : Bool) → p e.0 ≡ b → cond b (Some e.1) (lookup p es) ≡ None → (e.0 ≡ k) ⊎ Contains (map (λ (e : K × X). e.0) es) k
          → (lookup p es ≡ None → Contains (map (λ (e : K × X). e.0) es) k → p k ≡ false) → p k ≡ false
      by true i h d more = absurd (none-some e.1 (sym h))
      by false i h (inl same) more = ap p (sym same) ∙ i
      by false i h (inr d) more = more h d

module _ {X : Type 0} where
  -- an item that is set is there
  pub set_there : (xs : List X) (i : ℕ) (x y : X) → slice_get xs i ≡ Some x → slice_get (slice_set xs i y) i ≡ Some y
  set_there [] i x y e = absurd (none-some x e)
  set_there (z ∷ zs) zero x y e = refl
  set_there (z ∷ zs) (suc i) x y e = set_there zs i x y e

  -- the others stay
  pub set_apart : (xs : List X) (i j : ℕ) (y : X) → (i ≡ j → ⊥) → slice_get (slice_set xs i y) j ≡ slice_get xs j
  set_apart [] zero j y apart = refl
  set_apart [] (suc i) j y apart = refl
  set_apart (z ∷ zs) zero zero y apart = absurd (apart refl)
  set_apart (z ∷ zs) zero (suc j) y apart = refl
  set_apart (z ∷ zs) (suc i) zero y apart = refl
  set_apart (z ∷ zs) (suc i) (suc j) y apart = set_apart zs i j y (λ e. apart (ap suc e))

  -- where there is none, nothing is set
  pub set_nothing : (xs : List X) (i : ℕ) (y : X) → slice_get xs i ≡ None → slice_set xs i y ≡ xs
  set_nothing [] zero y e = refl
  set_nothing [] (suc i) y e = refl
  set_nothing (z ∷ zs) zero y e = absurd (none-some z (sym e))
  set_nothing (z ∷ zs) (suc i) y e = ap (λ (l : List X). z ∷ l) (set_nothing zs i y e)

  -- what is the same of both is the same of all
  pub set_alike : (g : X → ℕ) (xs : List X) (i : ℕ) (x y : X) → slice_get xs i ≡ Some x → g y ≡ g x → map g (slice_set xs i y) ≡ map g xs
  set_alike g [] i x y e same = absurd (none-some x e)
  set_alike g (z ∷ zs) zero x y e same = ap (λ (n : ℕ). n ∷ map g zs) (same ∙ ap g (sym (same_Some z x e)))
  set_alike g (z ∷ zs) (suc i) x y e same = ap (λ (l : List ℕ). g z ∷ l) (set_alike g zs i x y e same)

  -- ---- sums of fronts

  -- A number that is counted over the items in turn is of one item, at one place there.
  pub one_place : (g : X → ℕ) (xs : List X) (p q : ℕ) (x y : X) (a b : ℕ) → slice_get xs p ≡ Some x → slice_get xs q ≡ Some y → a < g x → b < g y
      → sum (map g (take p xs)) + a ≡ sum (map g (take q xs)) + b → (p ≡ q) × (a ≡ b)
  one_place g [] p q x y a b e f lt less same = absurd (none-some x e)
  one_place g (z ∷ zs) zero zero x y a b e f lt less same = (refl, omega arith)
  one_place g (z ∷ zs) zero (suc q) x y a b e f lt less same =
      let i : g z ≡ g x = ap g (same_Some z x e) in
      let first : 0 + a ≡ sum (g z ∷ map g (take q zs)) + b = same in
      let more = sum_by-cons (λ (n : ℕ). n) (g z) (map g (take q zs)) in
      absurd (omega arith)
  one_place g (z ∷ zs) (suc p) zero x y a b e f lt less same =
      let i : g z ≡ g y = ap g (same_Some z y f) in
      let first : sum (g z ∷ map g (take p zs)) + a ≡ 0 + b = same in
      let more = sum_by-cons (λ (n : ℕ). n) (g z) (map g (take p zs)) in
      absurd (omega arith)
  one_place g (z ∷ zs) (suc p) (suc q) x y a b e f lt less same =
      let all : sum (g z ∷ map g (take p zs)) + a ≡ sum (g z ∷ map g (take q zs)) + b = same in
      let more = sum_by-cons (λ (n : ℕ). n) (g z) (map g (take p zs)) in
      let others = sum_by-cons (λ (n : ℕ). n) (g z) (map g (take q zs)) in
      let rest : sum (map g (take p zs)) + a ≡ sum (map g (take q zs)) + b = omega arith in
      let r = one_place g zs p q x y a b e f lt less rest in
      (ap suc r.0, r.1)

-- Objects stay under their numbers.
use Rattle.std.proofs.Common.{◌≡◌, ◌≢◌, ◌+◌, ◌-◌, ℕ, zero, suc, List, [], ◌∷◌, ◌++◌, length, Option, None, Some, slice_get, slice_set, option_map, refl, sym, ◌∙◌, ap, arith}
use Rattle.std.proofs.lemmas.Option.{none-some, same_Some, slice_get_past}
use Rattle.std.proofs.lemmas.List.{length-set}
use Rattle.jl_heap.specs.Heap.{changed_at, at_number}

at_next : {X : Type 0} (xs : List X) (n i : ℕ) → n ≡ suc i → at_number xs n ≡ slice_get xs i
at_next xs n i e = ap (at_number xs) e

pub past_end : {X : Type 0} (xs : List X) → at_number xs (length xs + 1) ≡ None
past_end xs = at_next xs (length xs + 1) (length xs) (omega arith) ∙ slice_get_past xs (length xs) (omega arith)

pushed_at : {X : Type 0} (xs : List X) (x : X) → slice_get (xs ++ x ∷ []) (length xs) ≡ Some x
pushed_at [] x = refl
pushed_at (y ∷ xs) x = pushed_at xs x

pub pushed : {X : Type 0} (xs : List X) (x : X) → at_number (xs ++ x ∷ []) (length xs + 1) ≡ Some x
pushed xs x = at_next (xs ++ x ∷ []) (length xs + 1) (length xs) (omega arith) ∙ pushed_at xs x

old_at : {X : Type 0} (xs : List X) (x y : X) (i : ℕ) → slice_get xs i ≡ Some y → slice_get (xs ++ x ∷ []) i ≡ Some y
old_at [] x y i e = absurd (none-some y e)
old_at (z ∷ xs) x y zero e = e
old_at (z ∷ xs) x y (suc i) e = old_at xs x y i e

pub old_one : {X : Type 0} (xs : List X) (x y : X) (n : ℕ) → at_number xs n ≡ Some y → at_number (xs ++ x ∷ []) n ≡ Some y
old_one xs x y zero e = absurd (none-some y e)
old_one xs x y (suc i) e = old_at xs x y i e

pub set_at : {X : Type 0} (xs : List X) (i : ℕ) (x y : X) → slice_get xs i ≡ Some x → slice_get (slice_set xs i y) i ≡ Some y
set_at [] i x y e = absurd (none-some x e)
set_at (z ∷ xs) zero x y e = refl
set_at (z ∷ xs) (suc i) x y e = set_at xs i x y e

pub set_other : {X : Type 0} (xs : List X) (i j : ℕ) (y : X) → j ≢ i → slice_get (slice_set xs i y) j ≡ slice_get xs j
set_other [] i j y ne = refl
set_other (z ∷ xs) zero zero y ne = absurd (ne refl)
set_other (z ∷ xs) zero (suc j) y ne = refl
set_other (z ∷ xs) (suc i) zero y ne = refl
set_other (z ∷ xs) (suc i) (suc j) y ne = set_other xs i j y (λ e. ne (ap suc e))

pub changed_one : {X : Type 0} (change : X → X) (xs : List X) (x : X) (n : ℕ) → at_number xs n ≡ Some x → at_number (changed_at (n - 1) change xs) n ≡ Some (change x)
changed_one change xs x zero e = absurd (none-some x e)
changed_one change xs x (suc i) e = let same : suc i - 1 ≡ i = omega arith in rw (same, e) (set_at xs i x (change x) e)

pub other_one : {X : Type 0} (change : X → X) (xs : List X) (x : X) (n m : ℕ) → at_number xs n ≡ Some x → m ≢ n → at_number (changed_at (n - 1) change xs) m ≡ at_number xs m
other_one change xs x zero m e ne = absurd (none-some x e)
other_one change xs x (suc i) zero e ne = refl
other_one change xs x (suc i) (suc j) e ne = let same : suc i - 1 ≡ i = omega arith in rw (same, e) (set_other xs i j (change x) (λ f. ne (ap suc f)))

pub length_changed : {X : Type 0} (change : X → X) (xs : List X) (i : ℕ) → length (changed_at i change xs) ≡ length xs
length_changed {X} change xs i = by (slice_get xs i) refl
  where
    by : (o : Option X) → slice_get xs i ≡ o → length (changed_at i change xs) ≡ length xs
    by None e = rw e refl
    by (Some x) e = rw e (length-set xs i (change x))

-- what is seen of each element stays where a changed one shows the same
seen_set : {X Y : Type 0} (f : X → Y) (xs : List X) (i j : ℕ) (x y : X) → slice_get xs i ≡ Some x → f y ≡ f x → option_map f (slice_get (slice_set xs i y) j) ≡ option_map f (slice_get xs j)
seen_set f [] i j x y e s = refl
seen_set f (z ∷ xs) zero zero x y e s = ap Some (s ∙ ap f (sym (same_Some z x e)))
seen_set f (z ∷ xs) zero (suc j) x y e s = refl
seen_set f (z ∷ xs) (suc i) zero x y e s = refl
seen_set f (z ∷ xs) (suc i) (suc j) x y e s = seen_set f xs i j x y e s

pub seen_changed : {X Y : Type 0} (f : X → Y) (change : X → X) (xs : List X) (x : X) (n m : ℕ) → at_number xs n ≡ Some x → f (change x) ≡ f x
    → option_map f (at_number (changed_at (n - 1) change xs) m) ≡ option_map f (at_number xs m)
seen_changed f change xs x zero m e s = absurd (none-some x e)
seen_changed f change xs x (suc i) zero e s = refl
seen_changed f change xs x (suc i) (suc j) e s = let same : suc i - 1 ≡ i = omega arith in rw (same, e) (seen_set f xs i j x (change x) e s)

-- Lists of any items: numbers, searches, and what maps of lists hold.
use Rattle.std.proofs.Common.{◌≡◌, ◌<◌, ◌≤◌, ◌+◌, ℕ, zero, suc, List, [], ◌∷◌, ◌++◌, length, length-append, get_or, slice_get, map, find, flat_map, filter_map, Option, Some, None, Bool, true, false, cond, ⊎_elim, refl, sym, ◌∙◌, ap, ap₂, subst, All, arith}
use Rattle.std.specs.Prelude.{Contains}
use Rattle.std.specs.List.{cons_option, range_with_len}
use Rattle.std.specs.Option.{option_or, option_and_then, option_zip}
use Rattle.std.proofs.lemmas.List.{get_or_append_left}
use Rattle.std.proofs.lemmas.List.Elements.{Contains-get_or, Contains-append_cases, Contains-append_left, Contains-append_right}
use Rattle.std.proofs.lemmas.List.FromFn.{length-map-range_with_len, get_or-map-range_with_len}
use Rattle.std.proofs.lemmas.Option.{none-some, same_Some, slice_get_within, slice_get-get_or, get_or_from_slice_get}
use Rattle.jl_logic.specs.Lists.{IsFront}
use Rattle.jl_logic.proofs.Rising.{contains_head, contains_tail, contains_nothing, contains_cases}
use Rattle.jl_layer.specs.Layers.{numbered, first_given}

-- ---- places

module _ {X : Type 0} where
  pub place_of : (xs : List X) (x : X) → Contains xs x → (i : ℕ) × (slice_get xs i ≡ Some x)
  place_of xs x c = (c.0, slice_get-get_or xs c.0 x c.1 ∙ ap Some c.2)

  pub at_place : (xs : List X) (i : ℕ) (x : X) → slice_get xs i ≡ Some x → Contains xs x
  at_place xs i x e = (i, slice_get_within xs i x e, get_or_from_slice_get xs i x x e)

  pub all_of : (P : X → Type 0) (xs : List X) → ((x : X) → Contains xs x → P x) → All P xs
  all_of P xs h = λ k d lt. h (get_or xs k d) (Contains-get_or xs k d lt)

  -- ---- numbers

  -- a number that is given is one from 1 on
  pub numbered_there : (xs : List X) (n : ℕ) (x : X) → numbered xs n ≡ Some x → (0 < n) × (n ≤ length xs)
  numbered_there xs zero x e = absurd (none-some x e)
  numbered_there xs (suc n) x e = let lt : n < length xs = slice_get_within xs n x e in (omega arith, omega arith)

  pub numbered_in : (xs : List X) (n : ℕ) → 0 < n → n ≤ length xs → (x : X) × (numbered xs n ≡ Some x)
  numbered_in xs zero lt le = absurd (omega arith)
  numbered_in [] (suc n) lt le = absurd (omega arith)
  numbered_in (x ∷ xs) (suc zero) lt le = (x, refl)
  numbered_in (x ∷ xs) (suc (suc n)) lt le = numbered_in xs (suc n) (omega arith) (omega arith)

  front_place : (xs ys : List X) (n : ℕ) → n < length xs → slice_get (xs ++ ys) n ≡ slice_get xs n
  front_place [] ys n lt = absurd (omega arith)
  front_place (x ∷ xs) ys zero lt = refl
  front_place (x ∷ xs) ys (suc n) lt = front_place xs ys n (omega arith)

  pub numbered_before : (xs ys : List X) (n : ℕ) → n ≤ length xs → numbered (xs ++ ys) n ≡ numbered xs n
  numbered_before xs ys zero le = refl
  numbered_before xs ys (suc n) le = front_place xs ys n (omega arith)

  -- what is there keeps its number
  pub numbered_kept : (xs ys : List X) (n : ℕ) → IsFront xs ys → n ≤ length xs → numbered ys n ≡ numbered xs n
  numbered_kept xs ys n front le = ap (λ (l : List X). numbered l n) front.1 ∙ numbered_before xs front.0 n le

  -- what comes behind has the next numbers
  pub numbered_behind : (xs ys : List X) (n i : ℕ) → n ≡ length xs + i + 1 → numbered (xs ++ ys) n ≡ slice_get ys i
  numbered_behind xs ys zero i e = absurd (omega arith)
  numbered_behind [] ys (suc n) i e = let f : n ≡ i = omega arith in ap (slice_get ys) f
  numbered_behind (x ∷ xs) ys (suc zero) i e = absurd (omega arith)
  numbered_behind (x ∷ xs) ys (suc (suc n)) i e = numbered_behind xs ys (suc n) i (omega arith)

  -- with an item for number 0
  pub front_or : (d : X) (xs ys : List X) (k : ℕ) → IsFront xs ys → k ≤ length xs → get_or (d ∷ ys) k d ≡ get_or (d ∷ xs) k d
  front_or d xs ys k front le = ap (λ (l : List X). get_or (d ∷ l) k d) front.1 ∙ get_or_append_left (d ∷ xs) front.0 d k (omega arith)

  pub front_long : (xs ys : List X) → IsFront xs ys → length xs ≤ length ys
  front_long xs ys front = omega (arith, ap length front.1, length-append xs front.0)

-- ---- searches

module _ {X : Type 0} where
  pub find_alike : (f g : X → Bool) (xs : List X) → ((x : X) → Contains xs x → f x ≡ g x) → find f xs ≡ find g xs
  find_alike f g [] h = refl
  find_alike f g (x ∷ xs) h =
      ap₂ (λ (b : Bool) (o : Option X). cond b (Some x) o) (h x (contains_head x xs)) (find_alike f g xs (λ y c. h y (contains_tail x y xs c)))

  pub find_from : (f : X → Bool) (xs : List X) (x : X) → find f xs ≡ Some x → Contains xs x × (f x ≡ true)
  find_from f [] x e = absurd (none-some x e)
  find_from f (y ∷ ys) x e = by (f y) refl e (find_from f ys x)
    where
      by : (b : Bool) → f y ≡ b → cond b (Some y) (find f ys) ≡ Some x → (find f ys ≡ Some x → Contains ys x × (f x ≡ true)) → Contains (y ∷ ys) x × (f x ≡ true)
      by true i e more = let same : y ≡ x = same_Some y x e in (subst (Contains (y ∷ ys)) same (contains_head y ys), ap f (sym same) ∙ i)
      by false i e more = let r = more e in (contains_tail y x ys r.0, r.1)

-- ---- maps

module _ {X Y : Type 0} where
  pub map_alike : (f g : X → Y) (xs : List X) → ((x : X) → Contains xs x → f x ≡ g x) → map f xs ≡ map g xs
  map_alike f g [] h = refl
  map_alike f g (x ∷ xs) h = ap₂ (λ (y : Y) (ys : List Y). y ∷ ys) (h x (contains_head x xs)) (map_alike f g xs (λ y c. h y (contains_tail x y xs c)))

  pub flat_map_alike : (f g : X → List Y) (xs : List X) → ((x : X) → Contains xs x → f x ≡ g x) → flat_map f xs ≡ flat_map g xs
  flat_map_alike f g [] h = refl
  flat_map_alike f g (x ∷ xs) h =
      ap₂ (λ (y : List Y) (ys : List Y). y ++ ys) (h x (contains_head x xs)) (flat_map_alike f g xs (λ y c. h y (contains_tail x y xs c)))

  pub filter_map_alike : (f g : X → Option Y) (xs : List X) → ((x : X) → Contains xs x → f x ≡ g x) → filter_map f xs ≡ filter_map g xs
  filter_map_alike f g [] h = refl
  filter_map_alike f g (x ∷ xs) h =
      ap₂ (λ (y : Option Y) (ys : List Y). cons_option y ys) (h x (contains_head x xs)) (filter_map_alike f g xs (λ y c. h y (contains_tail x y xs c)))

  pub first_given_alike : (f g : X → Option Y) (xs : List X) → ((x : X) → Contains xs x → f x ≡ g x) → first_given f xs ≡ first_given g xs
  first_given_alike f g [] h = refl
  first_given_alike f g (x ∷ xs) h =
      ap₂ (λ (y z : Option Y). option_or y z) (h x (contains_head x xs)) (first_given_alike f g xs (λ y c. h y (contains_tail x y xs c)))

  pub and_then_alike : (f g : X → Option Y) (o : Option X) → ((x : X) → o ≡ Some x → f x ≡ g x) → option_and_then f o ≡ option_and_then g o
  and_then_alike f g None h = refl
  and_then_alike f g (Some x) h = h x refl

  pub and_then_from : (f : X → Option Y) (o : Option X) (y : Y) → option_and_then f o ≡ Some y → (x : X) × (o ≡ Some x) × (f x ≡ Some y)
  and_then_from f None y e = absurd (none-some y e)
  and_then_from f (Some x) y e = (x, refl, e)

  pub zip_from : (o : Option X) (p : Option Y) (x : X) (y : Y) → ◌≡◌ {A = Option (X × Y)} (option_zip o p) (Some (x, y)) → (o ≡ Some x) × (p ≡ Some y)
  zip_from None p x y e = absurd cc
  zip_from (Some w) None x y e = absurd cc
  zip_from (Some w) (Some z) x y e = let f : ◌≡◌ {A = X × Y} (w, z) (x, y) = same_Some (w, z) (x, y) e in (ap (λ (k : X × Y). Some k.0) f, ap (λ (k : X × Y). Some k.1) f)

  pub map_into : (f : X → Y) (xs : List X) (x : X) → Contains xs x → Contains (map f xs) (f x)
  map_into f [] x c = contains_nothing x c
  map_into f (y ∷ ys) x c =
      ⊎_elim (λ e. subst (λ (z : X). Contains (f y ∷ map f ys) (f z)) e (contains_head (f y) (map f ys))) (λ k. contains_tail (f y) (f x) (map f ys) (map_into f ys x k)) (contains_cases y x ys c)

  pub map_from : (f : X → Y) (xs : List X) (y : Y) → Contains (map f xs) y → (x : X) × Contains xs x × (f x ≡ y)
  map_from f [] y c = contains_nothing y c
  map_from f (x ∷ xs) y c =
      ⊎_elim (λ e. (x, contains_head x xs, e)) (λ k. let r = map_from f xs y k in (r.0, contains_tail x r.0 xs r.1, r.2)) (contains_cases (f x) y (map f xs) c)

  pub flat_map_into : (f : X → List Y) (xs : List X) (x : X) (y : Y) → Contains xs x → Contains (f x) y → Contains (flat_map f xs) y
  flat_map_into f [] x y c d = contains_nothing x c
  flat_map_into f (z ∷ zs) x y c d =
      ⊎_elim (λ e. Contains-append_left (f z) (flat_map f zs) y (subst (λ (w : X). Contains (f w) y) (sym e) d)) (λ k. Contains-append_right (f z) (flat_map f zs) y (flat_map_into f zs x y k d)) (contains_cases z x zs c)

  pub flat_map_from : (f : X → List Y) (xs : List X) (y : Y) → Contains (flat_map f xs) y → (x : X) × Contains xs x × Contains (f x) y
  flat_map_from f [] y c = contains_nothing y c
  flat_map_from f (x ∷ xs) y c =
      ⊎_elim (λ k. (x, contains_head x xs, k)) (λ k. let r = flat_map_from f xs y k in (r.0, contains_tail x r.0 xs r.1, r.2)) (Contains-append_cases (f x) (flat_map f xs) y c)

  pub filter_map_into : (f : X → Option Y) (xs : List X) (x : X) (y : Y) → Contains xs x → f x ≡ Some y → Contains (filter_map f xs) y
  filter_map_into f [] x y c e = contains_nothing x c
  filter_map_into f (z ∷ zs) x y c e =
      ⊎_elim (λ i. subst (λ (o : Option Y). Contains (cons_option o (filter_map f zs)) y) (sym (ap f i ∙ e)) (contains_head y (filter_map f zs))) (λ k. behind (f z) (filter_map_into f zs x y k e)) (contains_cases z x zs c)
    where
      behind : (o : Option Y) → Contains (filter_map f zs) y → Contains (cons_option o (filter_map f zs)) y
      behind None k = k
      behind (Some w) k = contains_tail w y (filter_map f zs) k

  pub filter_map_from : (f : X → Option Y) (xs : List X) (y : Y) → Contains (filter_map f xs) y → (x : X) × Contains xs x × (f x ≡ Some y)
  filter_map_from f [] y c = contains_nothing y c
  filter_map_from f (x ∷ xs) y c = by (f x) refl c (filter_map_from f xs y)
    where
      later : (z : X) × Contains xs z × (f z ≡ Some y) → (z : X) × Contains (x ∷ xs) z × (f z ≡ Some y)
      later r = (r.0, contains_tail x r.0 xs r.1, r.2)

      by : (o : Option Y) → f x ≡ o → Contains (cons_option o (filter_map f xs)) y → (Contains (filter_map f xs) y → (z : X) × Contains xs z × (f z ≡ Some y)) → (z : X) × Contains (x ∷ xs) z × (f z ≡ Some y)
      by None i k more = later (more k)
      by (Some w) i k more = ⊎_elim (λ e. (x, contains_head x xs, i ∙ ap Some e)) (λ j. later (more j)) (contains_cases w y (filter_map f xs) k)

-- ---- numbers in a row

module _ {X : Type 0} (f : ℕ → X) where
  pub row_at : (a n i : ℕ) → i < n → slice_get (map f (range_with_len a n)) i ≡ Some (f (a + i))
  row_at a n i lt =
      slice_get-get_or (map f (range_with_len a n)) i (f 0) (omega (arith, length-map-range_with_len f a n)) ∙ ap Some (get_or-map-range_with_len f a n i (a + i) (f 0) lt refl)

  pub row_into : (a n i : ℕ) → i < n → Contains (map f (range_with_len a n)) (f (a + i))
  row_into a n i lt = at_place (map f (range_with_len a n)) i (f (a + i)) (row_at a n i lt)

  pub row_from : (a n : ℕ) (x : X) → Contains (map f (range_with_len a n)) x → (i : ℕ) × (i < n) × (x ≡ f (a + i))
  row_from a n x c =
      let lt : c.0 < n = omega (arith, c.1, length-map-range_with_len f a n) in
      (c.0, lt, sym c.2 ∙ get_or-map-range_with_len f a n c.0 (a + c.0) x lt refl)

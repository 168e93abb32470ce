-- Lists of any items: what filters and maps keep, places, and the steps of loops.
use Rattle.std.proofs.Common.{◌≡◌, ◌⊎◌, ◌<◌, ◌+◌, ℕ, zero, suc, List, [], ◌∷◌, ◌++◌, length, map, take, get_or, slice_get, ⊎_elim, refl, sym, ◌∙◌, ap, ap₂, subst, Contains, All, Option, Some, None, append_assoc, arith, inl, inr, Bool, true, false}
use Rattle.std.specs.List.{AllByRecursion, filter_map, flat_map, cons_option}
use Rattle.std.specs.Option.{option_to_list}
use Rattle.std.proofs.lemmas.List.{take_more, append-nil}
use Rattle.std.proofs.lemmas.Grind.{flat_map-append}
use Rattle.std.proofs.lemmas.Option.{slice_get_within, slice_get-get_or, get_or_from_slice_get}
use Rattle.std.proofs.lemmas.List.Elements.{filter_map-append, All-from_recursion, Contains-append_left, Contains-append_right, Contains-append_cases, Contains-push_cases}
use Rattle.jl_logic.proofs.Rising.{contains_head, contains_tail, contains_cases, contains_nothing, each_from_members}
use Rattle.std.proofs.lemmas.Bool.{cases_lt}

pub same_item : {X : Type 0} (x y : X) (o : Option X) → o ≡ Some x → o ≡ Some y → x ≡ y
same_item x y o e f = cc

-- ---- places

module _ {X : Type 0} where
  pub contains_at : (xs : List X) (p : ℕ) (x : X) → slice_get xs p ≡ Some x → Contains xs x
  contains_at xs p x e = (p, slice_get_within xs p x e, get_or_from_slice_get xs p x x e)

  pub place_in : (xs : List X) (x : X) → Contains xs x → (p : ℕ) × (slice_get xs p ≡ Some x)
  place_in xs x c = (c.0, slice_get-get_or xs c.0 x c.1 ∙ ap Some c.2)

  -- what is read at a place of the same list
  pub item_here : (xs ys : List X) (i : ℕ) (x : X) → ys ≡ xs → i < length xs → x ≡ get_or ys i x → slice_get xs i ≡ Some x
  item_here xs ys i x e lt is = slice_get-get_or xs i x lt ∙ ap Some (sym (is ∙ ap (λ (l : List X). get_or l i x) e))

  -- an item at each place that there is
  pub item_at : (xs : List X) (p : ℕ) → p < length xs → (x : X) × (slice_get xs p ≡ Some x)
  item_at [] p lt = absurd (omega arith)
  item_at (x ∷ xs) p lt = (get_or (x ∷ xs) p x, slice_get-get_or (x ∷ xs) p x lt)

  -- the item that is last, or one before it
  pub last_or_before : (xs : List X) (x y : X) (A : Type 0) → Contains (xs ++ x ∷ []) y → (Contains xs y → A) → (x ≡ y → A) → A
  last_or_before xs x y A c before last = ⊎_elim before last (Contains-push_cases xs x y c)

  pub all_of : (P : X → Type 0) (xs : List X) → ((x : X) → Contains xs x → P x) → All P xs
  all_of P xs h = All-from_recursion P xs (each_from_members P xs h)

-- a mark that is read as set is there
pub mark_of : (marks : List Bool) (p : ℕ) → get_or marks p false ≡ true → slice_get marks p ≡ Some true
mark_of [] p e = absurd cc
mark_of (m ∷ marks) zero e = ap Some e
mark_of (m ∷ marks) (suc p) e = mark_of marks p e

pub below_or_last : (p i : ℕ) → p < i + 1 → (p < i) ⊎ (p ≡ i)
below_or_last p i lt = ⊎_elim inl (λ le. inr (omega arith)) (cases_lt p i)

-- ---- maps

module _ {X Y : Type 0} (f : X → Y) where
  pub into_map : (xs : List X) (x : X) → Contains xs x → Contains (map f xs) (f x)
  into_map [] x c = contains_nothing x c
  into_map (w ∷ xs) x c = ⊎_elim (λ e. subst (λ v. Contains (f w ∷ map f xs) (f v)) e (contains_head (f w) (map f xs))) (λ k. contains_tail (f w) (f x) (map f xs) (into_map xs x k)) (contains_cases w x xs c)

  pub from_map : (xs : List X) (y : Y) → Contains (map f xs) y → (x : X) × Contains xs x × (f x ≡ y)
  from_map [] y c = contains_nothing y c
  from_map (w ∷ xs) y c = ⊎_elim (λ e. (w, contains_head w xs, e)) (λ k. let r = from_map xs y k in (r.0, contains_tail w r.0 xs r.1, r.2)) (contains_cases (f w) y (map f xs) c)

  -- the row of a place
  pub row_at : (xs : List X) (p : ℕ) (x : X) (d : Y) → slice_get xs p ≡ Some x → get_or (map f xs) p d ≡ f x
  row_at [] p x d e = absurd cc
  row_at (w ∷ xs) zero x d e = let g : w ≡ x = cc in ap f g
  row_at (w ∷ xs) (suc p) x d e = row_at xs p x d e

-- ---- filters

module _ {X Y : Type 0} (h : X → Option Y) where
  pub into_filter_map : (xs : List X) (x : X) (y : Y) → Contains xs x → h x ≡ Some y → Contains (filter_map h xs) y
  into_filter_map [] x y c e = contains_nothing x c
  into_filter_map (w ∷ xs) x y c e = ⊎_elim (λ f. here (h w) (ap h f ∙ e)) (λ k. later (h w) (into_filter_map xs x y k e)) (contains_cases w x xs c)
    where
      here : (o : Option Y) → o ≡ Some y → Contains (cons_option o (filter_map h xs)) y
      here None f = absurd cc
      here (Some z) f = let g : z ≡ y = cc in subst (λ v. Contains (z ∷ filter_map h xs) v) g (contains_head z (filter_map h xs))

      later : (o : Option Y) → Contains (filter_map h xs) y → Contains (cons_option o (filter_map h xs)) y
      later None k = k
      later (Some z) k = contains_tail z y (filter_map h xs) k

  pub from_filter_map : (xs : List X) (y : Y) → Contains (filter_map h xs) y → (x : X) × Contains xs x × (h x ≡ Some y)
  from_filter_map [] y c = contains_nothing y c
  from_filter_map (w ∷ xs) y c = by (λ k. let r = from_filter_map xs y k in (r.0, contains_tail w r.0 xs r.1, r.2)) (h w) refl c
    where
      by : (Contains (filter_map h xs) y → (x : X) × Contains (w ∷ xs) x × (h x ≡ Some y)) → (o : Option Y) → h w ≡ o → Contains (cons_option o (filter_map h xs)) y → (x : X) × Contains (w ∷ xs) x × (h x ≡ Some y)
      by more None e k = more k
      by more (Some z) e k = ⊎_elim (λ f. (w, contains_head w xs, e ∙ ap Some f)) more (contains_cases z y (filter_map h xs) k)

  pub filter_map_long : (xs : List X) → AllByRecursion (λ x. (y : Y) × (h x ≡ Some y)) xs → length (filter_map h xs) ≡ length xs
  filter_map_long [] a = refl
  filter_map_long (w ∷ xs) a = by (filter_map_long xs a.1) (h w) a.0.0 a.0.1
    where
      by : length (filter_map h xs) ≡ length xs → (o : Option Y) (y : Y) → o ≡ Some y → length (cons_option o (filter_map h xs)) ≡ length (w ∷ xs)
      by more None y e = absurd cc
      by more (Some z) y e = omega arith

  alone : (o : Option Y) → cons_option o [] ≡ option_to_list o
  alone None = refl
  alone (Some y) = refl

  -- a loop's step, where the result grew by what the item at i gives
  pub filter_map_step : (xs : List X) (i : ℕ) (x : X) (old new : List Y) → i < length xs → x ≡ get_or xs i x → old ≡ filter_map h (take i xs) → new ≡ old ++ option_to_list (h x) → new ≡ filter_map h (take (i + 1) xs)
  filter_map_step xs i x old new lt is e f =
      let more : take (i + 1) xs ≡ take i xs ++ x ∷ [] = take_more xs i x lt ∙ ap (λ w. take i xs ++ w ∷ []) (sym is) in
      f ∙ ap₂ (λ l r. l ++ r) e (sym (alone (h x))) ∙ sym (filter_map-append h (take i xs) (x ∷ [])) ∙ sym (ap (filter_map h) more)

  -- a loop's step, where the result grew behind what was there first
  pub filter_map_behind : (xs : List X) (i : ℕ) (x : X) (first old new : List Y) → i < length xs → x ≡ get_or xs i x → old ≡ first ++ filter_map h (take i xs) → new ≡ old ++ option_to_list (h x) → new ≡ first ++ filter_map h (take (i + 1) xs)
  filter_map_behind xs i x first old new lt is e f =
      let step : filter_map h (take i xs) ++ option_to_list (h x) ≡ filter_map h (take (i + 1) xs) = filter_map_step xs i x (filter_map h (take i xs)) (filter_map h (take i xs) ++ option_to_list (h x)) lt is refl refl in
      f ∙ ap (λ (l : List Y). l ++ option_to_list (h x)) e ∙ append_assoc first (filter_map h (take i xs)) (option_to_list (h x)) ∙ ap (λ (l : List Y). first ++ l) step

pub grown : {Y : Type 0} {o p : Option Y} {new : List Y} (old : List Y) → o ≡ p → new ≡ old ++ option_to_list o → new ≡ old ++ option_to_list p
grown old e f = f ∙ ap (λ q. old ++ option_to_list q) e

-- ---- lists of lists

module _ {X Y : Type 0} (f : X → List Y) where
  pub into_flat_map : (xs : List X) (x : X) (y : Y) → Contains xs x → Contains (f x) y → Contains (flat_map f xs) y
  into_flat_map [] x y c d = contains_nothing x c
  into_flat_map (w ∷ xs) x y c d = ⊎_elim (λ e. Contains-append_left (f w) (flat_map f xs) y (subst (λ v. Contains (f v) y) (sym e) d)) (λ k. Contains-append_right (f w) (flat_map f xs) y (into_flat_map xs x y k d)) (contains_cases w x xs c)

  pub from_flat_map : (xs : List X) (y : Y) → Contains (flat_map f xs) y → (x : X) × Contains xs x × Contains (f x) y
  from_flat_map [] y c = contains_nothing y c
  from_flat_map (w ∷ xs) y c = ⊎_elim (λ k. (w, contains_head w xs, k)) (λ k. let r = from_flat_map xs y k in (r.0, contains_tail w r.0 xs r.1, r.2)) (Contains-append_cases (f w) (flat_map f xs) y c)

  -- a loop's step, where the result grew by what the item at i gives
  pub flat_map_step : (xs : List X) (i : ℕ) (x : X) (old new : List Y) → i < length xs → x ≡ get_or xs i x → old ≡ flat_map f (take i xs) → new ≡ old ++ f x → new ≡ flat_map f (take (i + 1) xs)
  flat_map_step xs i x old new lt is e g =
      let more : take (i + 1) xs ≡ take i xs ++ x ∷ [] = take_more xs i x lt ∙ ap (λ w. take i xs ++ w ∷ []) (sym is) in
      g ∙ ap (λ l. l ++ f x) e ∙ ap (λ l. flat_map f (take i xs) ++ l) (sym (append-nil (f x))) ∙ sym (flat_map-append f (take i xs) (x ∷ [])) ∙ sym (ap (flat_map f) more)

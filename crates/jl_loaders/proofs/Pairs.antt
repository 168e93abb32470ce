-- Packages and their modules: what a sort, and the first pair of each package, keep, and a search among pairs that rise.
use Rattle.std.proofs.Common.{◌≡◌, ◌<◌, ℕ, zero, suc, List, [], ◌∷◌, ◌++◌, length, get_or, ⊎_elim, refl, sym, ◌∙◌, ap, ap₂, subst, Option, Some, None, Err, Bool, true, false, cond, ◌&&◌, not, Ordering, Less, Equal, Greater, arith, add-one}
use Rattle.std.specs.List.{dedup, dedup_from, filter, AllByRecursion}
use Rattle.std.specs.Option.{option_or}
use Rattle.std.specs.Ordering.{is_lt, is_eq, ordering_reverse}
use Rattle.std.specs.Cmp.{IsTotalOrder, IsStrictWeakOrder}
use Rattle.std.specs.Cmp.Lexicographic.{bytes_decides, texts_ties, nat_list_cmp_total}
use Rattle.std.specs.List.Sorted.{IsSorted, IsSortedBy, IsStable, IsStrictlySortedBy, IsBinarySearchResult, ties}
use Rattle.std.proofs.lemmas.Cmp.{on_total}
use Rattle.std.proofs.lemmas.Bool.{cases_lt}
use Rattle.std.proofs.lemmas.List.Kept.{IsStrictlySortedBy-dedup}
use Rattle.std.proofs.lemmas.List.Sorted.{ranks_by, searchable_from_sorted}
use Rattle.jl_logic.specs.Order.{is_text, name_cmp, RisesBy}
use Rattle.jl_prim.specs.declared.numbers.ModuleId.{ModuleId}
use Rattle.jl_loaders.specs.Loaders.{given_for, package_cmp}
use Rattle.jl_loaders.specs.Maps.{is_package}

abbrev pub Pair : Type 0
Pair = List ℕ × ModuleId

abbrev pub label : Pair → List ℕ
label x = x.0

pub packages_total : IsTotalOrder package_cmp
packages_total = on_total label nat_list_cmp_total

pub packages_rank : IsStrictWeakOrder (λ (x y : Pair). is_lt (package_cmp x y))
packages_rank = ranks_by nat_list_cmp_total label

less_differs : (a b : List ℕ) → name_cmp a b ≡ Less → is_text a b ≡ false
less_differs a b e = texts_ties a b ∙ ap is_eq e

greater_differs : (a b : List ℕ) → name_cmp a b ≡ Greater → is_text a b ≡ false
greater_differs a b e = texts_ties a b ∙ ap is_eq e

equal_text : (a b : List ℕ) → name_cmp a b ≡ Equal → is_text a b ≡ true
equal_text a b e = texts_ties a b ∙ ap is_eq e

-- ---- one list behind the other

pub given_append : (p : List ℕ) (xs ys : List Pair) → given_for p (xs ++ ys) ≡ option_or (given_for p xs) (given_for p ys)
given_append p [] ys = refl
given_append p (x ∷ xs) ys = by (is_text x.0 p) (given_append p xs ys)
  where
    by : (b : Bool) → given_for p (xs ++ ys) ≡ option_or (given_for p xs) (given_for p ys) → cond b (Some x.1) (given_for p (xs ++ ys)) ≡ option_or (cond b (Some x.1) (given_for p xs)) (given_for p ys)
    by true h = refl
    by false h = h

-- ---- a sort

-- what ties with a package is of that package
tie_is : (p : List ℕ) (m : ModuleId) (y : Pair) → ties (λ (v w : Pair). is_lt (package_cmp v w)) (p, m) y ≡ is_text y.0 p
tie_is p m y = by (name_cmp y.0 p) refl ∙ sym (texts_ties y.0 p)
  where
    by : (o : Ordering) → name_cmp y.0 p ≡ o → (not (is_lt (name_cmp p y.0)) && not (is_lt (name_cmp y.0 p))) ≡ is_eq (name_cmp y.0 p)
    by Less e = ap₂ (λ a b. not (is_lt a) && not (is_lt b)) (nat_list_cmp_total.antisymm p y.0 ∙ ap ordering_reverse e) e ∙ ap is_eq (sym e)
    by Equal e = ap₂ (λ a b. not (is_lt a) && not (is_lt b)) (nat_list_cmp_total.antisymm p y.0 ∙ ap ordering_reverse e) e ∙ ap is_eq (sym e)
    by Greater e = ap₂ (λ a b. not (is_lt a) && not (is_lt b)) (nat_list_cmp_total.antisymm p y.0 ∙ ap ordering_reverse e) e ∙ ap is_eq (sym e)

abbrev first_module : List Pair → Option ModuleId
first_module [] = None
first_module (x ∷ xs) = Some x.1

given_first : (p : List ℕ) (m : ModuleId) (xs : List Pair) → given_for p xs ≡ first_module (filter (ties (λ (v w : Pair). is_lt (package_cmp v w)) (p, m)) xs)
given_first p m [] = refl
given_first p m (x ∷ xs) =
    by (is_text x.0 p) (given_first p m xs)
    ∙ sym (ap (λ (b : Bool). first_module (cond b (x ∷ filter (ties (λ (v w : Pair). is_lt (package_cmp v w)) (p, m)) xs) (filter (ties (λ (v w : Pair). is_lt (package_cmp v w)) (p, m)) xs))) (tie_is p m x))
  where
    by : (b : Bool) → given_for p xs ≡ first_module (filter (ties (λ (v w : Pair). is_lt (package_cmp v w)) (p, m)) xs)
        → cond b (Some x.1) (given_for p xs) ≡ first_module (cond b (x ∷ filter (ties (λ (v w : Pair). is_lt (package_cmp v w)) (p, m)) xs) (filter (ties (λ (v w : Pair). is_lt (package_cmp v w)) (p, m)) xs))
    by true h = refl
    by false h = h

pub given_sorted : (p : List ℕ) (xs ys : List Pair) → IsStable package_cmp xs ys → given_for p ys ≡ given_for p xs
given_sorted p xs ys stable = let m : ModuleId = record { 0 = 0 } in given_first p m ys ∙ ap first_module (stable (p, m)) ∙ sym (given_first p m xs)

-- ---- the first pair of each package

given_from : (p : List ℕ) (k : Pair) (xs : List Pair) → given_for p (dedup_from is_package k xs) ≡ given_for p (k ∷ xs)
given_from p k [] = refl
given_from p k (x ∷ xs) = by (is_package x k) refl (given_from p k xs) (given_from p x xs)
  where
    none : (b : Bool) → cond b (Some k.1) (given_for p xs) ≡ cond b (Some k.1) (cond b (Some x.1) (given_for p xs))
    none true = refl
    none false = refl

    by : (b : Bool) → is_package x k ≡ b → given_for p (dedup_from is_package k xs) ≡ given_for p (k ∷ xs) → given_for p (dedup_from is_package x xs) ≡ given_for p (x ∷ xs) → given_for p (cond b (dedup_from is_package k xs) (k ∷ dedup_from is_package x xs)) ≡ given_for p (k ∷ x ∷ xs)
    by true e h i =
        let same : x.0 ≡ k.0 = (bytes_decides x.0 k.0).0 e in
        h ∙ none (is_text k.0 p) ∙ ap (λ (n : List ℕ). cond (is_text k.0 p) (Some k.1) (cond (is_text n p) (Some x.1) (given_for p xs))) (sym same)
    by false e h i = ap (λ (o : Option ModuleId). cond (is_text k.0 p) (Some k.1) o) i

pub given_dedup : (p : List ℕ) (xs : List Pair) → given_for p (dedup is_package xs) ≡ given_for p xs
given_dedup p [] = refl
given_dedup p (x ∷ xs) = given_from p x xs

strictly_rises : (xs : List Pair) → IsStrictlySortedBy package_cmp xs → RisesBy package_cmp xs
unfolding IsStrictlySortedBy
strictly_rises [] h = tt
strictly_rises (x ∷ xs) h = (h.0, strictly_rises xs h.1)

pub dedup_rises : (xs : List Pair) → IsSorted package_cmp xs → RisesBy package_cmp (dedup is_package xs)
dedup_rises xs sorted = strictly_rises (dedup is_package xs) (IsStrictlySortedBy-dedup packages_total (λ x y. texts_ties x.0 y.0) xs sorted)

-- ---- a search

sorted_if_rising : (xs : List Pair) → RisesBy package_cmp xs → IsSortedBy (λ a b. is_lt (name_cmp (label a) (label b))) xs
sorted_if_rising [] up k d le lt = absurd (omega arith)
sorted_if_rising (w ∷ []) up k d le lt = absurd (omega arith)
sorted_if_rising (w ∷ v ∷ xs) up zero d le lt =
    let less : name_cmp (label w) (label v) ≡ Less = up.0.0 in
    let back : name_cmp (label v) (label w) ≡ Greater = nat_list_cmp_total.antisymm (label v) (label w) ∙ ap ordering_reverse less in
    ap is_lt back
sorted_if_rising (w ∷ v ∷ xs) up (suc k) d le lt =
    let more = sorted_if_rising (v ∷ xs) up.1 k d (omega arith) (omega arith) in
    rw (add-one (suc k)) (rw (add-one k) at more)

less_than_later : (x : Pair) (xs : List Pair) (i : ℕ) (d : Pair) → AllByRecursion (λ y. package_cmp x y ≡ Less) xs → i < length xs → package_cmp x (get_or xs i d) ≡ Less
less_than_later x [] i d h lt = absurd (omega arith)
less_than_later x (y ∷ xs) zero d h lt = h.0
less_than_later x (y ∷ xs) (suc i) d h lt = less_than_later x xs i d h.1 (omega arith)

pub found_in : (p : List ℕ) (xs : List Pair) (i : ℕ) (d : Pair) → RisesBy package_cmp xs → i < length xs → name_cmp (label (get_or xs i d)) p ≡ Equal → given_for p xs ≡ Some (get_or xs i d).1
found_in p [] i d up lt e = absurd (omega arith)
found_in p (x ∷ xs) zero d up lt e = ap (λ (b : Bool). cond b (Some x.1) (given_for p xs)) (equal_text x.0 p e)
found_in p (x ∷ xs) (suc i) d up lt e =
    let same : label (get_or xs i d) ≡ p = (bytes_decides (label (get_or xs i d)) p).0 (equal_text (label (get_or xs i d)) p e) in
    let less : name_cmp x.0 p ≡ Less = subst (λ (n : List ℕ). name_cmp x.0 n ≡ Less) same (less_than_later x xs i d up.0 (omega arith)) in
    ap (λ (b : Bool). cond b (Some x.1) (given_for p xs)) (less_differs x.0 p less) ∙ found_in p xs i d up.1 (omega arith) e

nowhere_in : (p : List ℕ) (xs : List Pair) → ((k : ℕ) (d : Pair) → k < length xs → is_text (label (get_or xs k d)) p ≡ false) → given_for p xs ≡ None
nowhere_in p [] h = refl
nowhere_in p (x ∷ xs) h = ap (λ (b : Bool). cond b (Some x.1) (given_for p xs)) (h 0 x (omega arith)) ∙ nowhere_in p xs (λ k d lt. h (suc k) d (omega arith))

pub missing_in : (p : List ℕ) (xs : List Pair) (i : ℕ) → RisesBy package_cmp xs → IsBinarySearchResult (λ (x : Pair). name_cmp (label x) p) xs (Err i) → given_for p xs ≡ None
missing_in p xs i up h =
    let split = h (searchable_from_sorted nat_list_cmp_total label xs p (sorted_if_rising xs up)) in
    nowhere_in p xs (λ k d lt. ⊎_elim (λ a. less_differs (label (get_or xs k d)) p (split.0 k d (omega arith) a)) (λ a. greater_differs (label (get_or xs k d)) p (split.1 k d a lt)) (cases_lt k i))

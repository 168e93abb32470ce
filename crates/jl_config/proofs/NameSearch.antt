-- Searches in lists that rise by a name and something more.
use Rattle.std.proofs.Common.{◌≡◌, ◌↔◌, ◌<◌, ◌+◌, ℕ, List, [], ◌∷◌, length, get_or, ⊎_elim, refl, sym, ◌∙◌, subst, Contains, IsTrue, Result, Ok, Err, Ordering, Less, Equal, Greater, false, arith}
use Rattle.std.specs.Result.{is_ok}
use Rattle.std.specs.Ordering.{ordering_then, is_lt}
use Rattle.std.specs.List.Sorted.{IsSortedBy, IsBinarySearchResult, IsSearchInRange}
use Rattle.std.specs.Cmp.Lexicographic.{nat_list_cmp_total}
use Rattle.std.proofs.lemmas.Bool.{cases_lt}
use Rattle.std.proofs.lemmas.Cmp.{tied_itself}
use Rattle.std.proofs.lemmas.List.{get_or_default}
use Rattle.std.proofs.lemmas.List.Sorted.{searchable_from_sorted}
use Rattle.jl_logic.specs.Order.{name_cmp, RisesBy}
use Rattle.jl_config.proofs.Collects.{then_equal}
use Rattle.jl_config.proofs.SameNames.{rising_at}
use Rattle.jl_config.proofs.Names.{names_exact}

module _ {X : Type 0} (cmp : X → X → Ordering) (key : X → List ℕ) (second : X → X → Ordering) (order : (x y : X) → cmp x y ≡ ordering_then (name_cmp (key x) (key y)) (second x y)) where
  not_back : (d e : X) → cmp d e ≡ Less → is_lt (name_cmp (key e) (key d)) ≡ false
  not_back d e l = by (name_cmp (key d) (key e)) refl (sym (order d e) ∙ l)
    where
      by : (o : Ordering) → name_cmp (key d) (key e) ≡ o → ordering_then o (second d e) ≡ Less → is_lt (name_cmp (key e) (key d)) ≡ false
      by Less f g = rw (nat_list_cmp_total.antisymm (key e) (key d), f) refl
      by Equal f g = rw (nat_list_cmp_total.antisymm (key e) (key d), f) refl
      by Greater f g = absurd cc

  sorted_keys : (xs : List X) → RisesBy cmp xs → IsSortedBy (λ d e. is_lt (name_cmp (key d) (key e))) xs
  sorted_keys xs up k d le lt = not_back (get_or xs k d) (get_or xs (k + 1) d) (rising_at cmp xs up k (k + 1) d (omega arith) (omega arith))

  found_at : (p : List ℕ) (i : ℕ) (xs : List X) → i < length xs → ((d : X) → name_cmp (key (get_or xs i d)) p ≡ Equal) → (x : X) × Contains xs x × (key x ≡ p)
  found_at p i [] lt g = absurd (omega arith)
  found_at p i (x ∷ xs) lt g =
      let y : X = get_or (x ∷ xs) i x in
      (y, (i, lt, get_or_default (x ∷ xs) i y x lt), names_exact (key y) p (g x))

  pub key_searched : (p : List ℕ) (xs : List X) (r : Result ℕ ℕ) → RisesBy cmp xs → IsSearchInRange r (length xs) → IsBinarySearchResult (λ x. name_cmp (key x) p) xs r → IsTrue (is_ok r) ↔ ((x : X) × Contains xs x × (key x ≡ p))
  key_searched p xs (Ok i) up range h = (λ t. found_at p i xs range h, λ x. refl)
  key_searched p xs (Err i) up range h =
      let split = h (searchable_from_sorted nat_list_cmp_total key xs p (sorted_keys xs up)) in (
        λ t. absurd cc,
        λ x.
            let k : ℕ = x.1.0 in
            let at : get_or xs k x.0 ≡ x.0 = x.1.2 in
            let tie : name_cmp (key (get_or xs k x.0)) p ≡ Equal = rw (at, x.2) (tied_itself nat_list_cmp_total p) in
            ⊎_elim
            (λ lt. let f : name_cmp (key (get_or xs k x.0)) p ≡ Less = split.0 k x.0 (omega arith) lt in absurd cc)
            (λ le. let f : name_cmp (key (get_or xs k x.0)) p ≡ Greater = split.1 k x.0 le x.1.1 in absurd cc)
            (cases_lt k i),
      )

-- names themselves
pub name_searched : (p : List ℕ) (names : List (List ℕ)) (r : Result ℕ ℕ) → RisesBy name_cmp names → IsSearchInRange r (length names) → IsBinarySearchResult (λ (n : List ℕ). name_cmp n p) names r → IsTrue (is_ok r) ↔ Contains names p
name_searched p names r up range h =
    let s = key_searched name_cmp (λ n. n) (λ x y. Equal) (λ x y. sym (then_equal (name_cmp x y))) p names r up range h in
    (λ t. let x = s.0 t in subst (Contains names) x.2 x.1, λ c. s.1 (p, c, refl))

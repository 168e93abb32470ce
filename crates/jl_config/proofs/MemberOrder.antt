-- Names with places, in name order: a search, and one more of them.
use Rattle.std.proofs.Common.{◌≡◌, ◌<◌, ◌≤◌, ℕ, zero, suc, List, [], ◌∷◌, ◌++◌, length, get_or, take, drop, refl, sym, ◌∙◌, ap, subst, Option, Some, None, Bool, true, false, cond, Less, Equal, Greater, Result, Ok, Err, insert, arith, add-one}
use Rattle.std.specs.List.{AllByRecursion, AllWithin}
use Rattle.std.specs.Ordering.{ordering_reverse, is_lt}
use Rattle.std.specs.Cmp.{IsTotalOrder}
use Rattle.std.specs.Cmp.Lexicographic.{nat_list_cmp_total}
use Rattle.std.specs.List.Sorted.{IsSortedBy, IsBinarySearchResult, IsPartitionPoint, IsSearchInRange}
use Rattle.std.proofs.lemmas.Cmp.{on_total}
use Rattle.std.proofs.lemmas.List.{take-append-drop}
use Rattle.std.proofs.lemmas.List.Elements.{recursion_from_All}
use Rattle.std.proofs.lemmas.List.Sorted.{searchable_from_sorted}
use Rattle.jl_logic.specs.Order.{name_cmp, is_text, RisesBy}
use Rattle.jl_logic.proofs.Rising.{rises_between}
use Rattle.jl_config.specs.Placed.{placed_cmp, place_in, IsSought}
use Rattle.jl_config.specs.Tables.{or_at}
use Rattle.jl_config.specs.declared.placed.Placed.{Placed}
use Rattle.jl_config.proofs.Names.{text_is, greater_other, tied_text, greater_back}

abbrev pub label : Placed → List ℕ
label x = x.name

pub placed_total : IsTotalOrder placed_cmp
placed_total = on_total label nat_list_cmp_total

-- one with an equal name is there
sought : (xs : List Placed) (p : ℕ) (name : List ℕ) → p < length xs → ((d : Placed) → name_cmp (label (get_or xs p d)) name ≡ Equal) → (place : ℕ) × (place_in name xs ≡ Some place)
sought [] p name lt e = absurd (omega arith)
sought (x ∷ xs) zero name lt e = (x.place, rw (tied_text x.name name (e x)) refl)
sought (x ∷ xs) (suc p) name lt e = by (is_text x.name name) (sought xs p name (omega arith) e)
  where
    by : (b : Bool) → (place : ℕ) × (place_in name xs ≡ Some place) → (place : ℕ) × (cond b (Some x.place) (place_in name xs) ≡ Some place)
    by true more = (x.place, refl)
    by false more = more

sorted_if_rising : (xs : List Placed) → RisesBy placed_cmp xs → IsSortedBy (λ a b. is_lt (name_cmp (label a) (label b))) xs
sorted_if_rising [] up k d le lt = absurd (omega arith)
sorted_if_rising (w ∷ []) up k d le lt = absurd (omega arith)
sorted_if_rising (w ∷ v ∷ xs) up zero d le lt =
    let less : name_cmp (label w) (label v) ≡ Less = up.0.0 in
    let back : name_cmp (label v) (label w) ≡ Greater = nat_list_cmp_total.antisymm (label v) (label w) ∙ ap ordering_reverse less in
    ap is_lt back
sorted_if_rising (w ∷ v ∷ xs) up (suc k) d le lt =
    let more = sorted_if_rising (v ∷ xs) up.1 k d (omega arith) (omega arith) in
    rw (add-one (suc k)) (rw (add-one k) at more)

pub is_sought : (name : List ℕ) (xs : List Placed) (r : Result ℕ ℕ) → RisesBy placed_cmp xs → IsSearchInRange r (length xs) → IsBinarySearchResult (λ x. name_cmp (label x) name) xs r → IsSought name xs r
is_sought name xs (Ok p) up range h = sought xs p name range h
is_sought name xs (Err p) up range h = (range, h (searchable_from_sorted nat_list_cmp_total label xs name (sorted_if_rising xs up)))

-- ---- an insert

each_first : (P : Placed → Type 0) (xs : List Placed) (p : ℕ) → AllWithin P xs 0 p → p ≤ length xs → AllByRecursion P (take p xs)
each_first P xs zero h le = tt
each_first P [] (suc p) h le = tt
each_first P (w ∷ xs) (suc p) h le = (h 0 w (omega arith) (omega arith), each_first P xs p (λ k d a b. h (suc k) d (omega arith) (omega arith)) (omega arith))

each_last : (P : Placed → Type 0) (xs : List Placed) (p : ℕ) → AllWithin P xs p (length xs) → AllByRecursion P (drop p xs)
each_last P xs zero h = recursion_from_All P xs (λ k d lt. h k d (omega arith) lt)
each_last P [] (suc p) h = tt
each_last P (w ∷ xs) (suc p) h = each_last P xs p (λ k d a b. h (suc k) d (omega arith) (omega arith))

nowhere : (name : List ℕ) (xs : List Placed) → AllByRecursion (λ x. is_text (label x) name ≡ false) xs → place_in name xs ≡ None
nowhere name [] h = refl
nowhere name (x ∷ xs) h = rw h.0 (nowhere name xs h.1)

by_place : (o : Option ℕ) (place : ℕ) → o ≡ or_at o false place
by_place None place = refl
by_place (Some p) place = refl

-- a name that none behind it has is found at whatever place
pub found_amid : (xs ys : List Placed) (x : Placed) (q : List ℕ) → AllByRecursion (λ w. is_text (label w) (label x) ≡ false) ys → place_in q (xs ++ x ∷ ys) ≡ or_at (place_in q (xs ++ ys)) (is_text (label x) q) x.place
found_amid [] ys x q h = by (is_text (label x) q) refl
  where
    by : (b : Bool) → is_text (label x) q ≡ b → cond b (Some x.place) (place_in q ys) ≡ or_at (place_in q ys) b x.place
    by true e =
        let none : place_in q ys ≡ None = nowhere q ys (subst (λ (n : List ℕ). AllByRecursion (λ w. is_text (label w) n ≡ false) ys) (text_is (label x) q e) h) in
        sym (ap (λ (o : Option ℕ). or_at o true x.place) none)
    by false e = by_place (place_in q ys) x.place
found_amid (w ∷ xs) ys x q h = by (is_text (label w) q) (found_amid xs ys x q h)
  where
    by : (b : Bool) → place_in q (xs ++ x ∷ ys) ≡ or_at (place_in q (xs ++ ys)) (is_text (label x) q) x.place → cond b (Some w.place) (place_in q (xs ++ x ∷ ys)) ≡ or_at (cond b (Some w.place) (place_in q (xs ++ ys))) (is_text (label x) q) x.place
    by true e = refl
    by false e = e

-- what an insert into a list leaves, the list as a search read it
module _ (xs read new : List Placed) (x : Placed) (p : ℕ) (is : read ≡ xs) (grows : new ≡ insert xs p x) (le : p ≤ length read) (split : IsPartitionPoint (λ w. name_cmp (label w) (label x) ≡ Less) (λ w. name_cmp (label w) (label x) ≡ Greater) read p) where
  same_insert : insert read p x ≡ new
  same_insert = ap (λ (l : List Placed). insert l p x) is ∙ sym grows

  pub put_rises : RisesBy placed_cmp xs → RisesBy placed_cmp new
  put_rises up =
      let whole : RisesBy placed_cmp (take p read ++ drop p read) = subst (RisesBy placed_cmp) (sym is ∙ sym (take-append-drop p read)) up in
      let high : AllWithin (λ w. placed_cmp x w ≡ Less) read p (length read) = λ k d a b. greater_back (label (get_or read k d)) (label x) (split.1 k d a b) in
      subst (RisesBy placed_cmp) same_insert (rises_between placed_cmp placed_total (take p read) (drop p read) x whole (each_first (λ w. placed_cmp w x ≡ Less) read p split.0 le) (each_last (λ w. placed_cmp x w ≡ Less) read p high))

  pub put_finds : (q : List ℕ) → place_in q new ≡ or_at (place_in q xs) (is_text (label x) q) x.place
  put_finds q =
      let differ : AllWithin (λ w. is_text (label w) (label x) ≡ false) read p (length read) = λ k d a b. greater_other (label (get_or read k d)) (label x) (split.1 k d a b) in
      let amid : place_in q (take p read ++ x ∷ drop p read) ≡ or_at (place_in q (take p read ++ drop p read)) (is_text (label x) q) x.place = found_amid (take p read) (drop p read) x q (each_last (λ w. is_text (label w) (label x) ≡ false) read p differ) in
      ap (place_in q) (sym same_insert) ∙ amid ∙ ap (λ (l : List Placed). or_at (place_in q l) (is_text (label x) q) x.place) (take-append-drop p read ∙ is)

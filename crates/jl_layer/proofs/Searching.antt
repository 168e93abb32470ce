-- A search by a name in items that rise by their names.
use Rattle.std.proofs.Common.{◌≡◌, ◌<◌, ℕ, zero, suc, List, [], ◌∷◌, length, get_or, ⊎_elim, refl, ◌∙◌, ap, subst, find, Option, Some, None, Err, Bool, true, false, cond, Less, Equal, Greater, arith, add-one}
use Rattle.std.specs.List.{AllByRecursion}
use Rattle.std.specs.Option.{option_map_or}
use Rattle.std.specs.Ordering.{is_lt, is_eq, ordering_reverse}
use Rattle.std.specs.Cmp.Lexicographic.{bytes_decides, texts_ties, nat_list_cmp_total}
use Rattle.std.specs.List.Sorted.{IsSortedBy, IsBinarySearchResult}
use Rattle.std.proofs.lemmas.Bool.{cases_lt}
use Rattle.std.proofs.lemmas.List.Sorted.{searchable_from_sorted}
use Rattle.std.proofs.lemmas.List.Elements.{All-get_or}
use Rattle.jl_logic.specs.Order.{is_text, name_cmp, RisesBy}
use Rattle.jl_prim.specs.declared.numbers.ModuleId.{ModuleId}
use Rattle.jl_layer.specs.declared.layer.Member.{Member}
use Rattle.jl_layer.specs.Layers.{numbered}
use Rattle.jl_layer.specs.Orderly.{name_in, name_at, IsWithin, AreInOrder}
use Rattle.jl_layer.proofs.Numbers.{numbered_there}

less_differs : (a b : List ℕ) → name_cmp a b ≡ Less → is_text a b ≡ false
less_differs a b e = texts_ties a b ∙ ap is_eq e

greater_differs : (a b : List ℕ) → name_cmp a b ≡ Greater → is_text a b ≡ false
greater_differs a b e = texts_ties a b ∙ ap is_eq e

equal_text : (a b : List ℕ) → name_cmp a b ≡ Equal → is_text a b ≡ true
equal_text a b e = texts_ties a b ∙ ap is_eq e

module _ {X : Type 0} (label : X → List ℕ) where
  sorted_if_rising : (xs : List X) → RisesBy (λ a b. name_cmp (label a) (label b)) xs → IsSortedBy (λ a b. is_lt (name_cmp (label a) (label b))) xs
  sorted_if_rising [] up k d le lt = absurd (omega arith)
  sorted_if_rising (w ∷ []) up k d le lt = absurd (omega arith)
  sorted_if_rising (w ∷ v ∷ xs) up zero d le lt =
      let less : name_cmp (label w) (label v) ≡ Less = up.0.0 in
      let back : name_cmp (label v) (label w) ≡ Greater = nat_list_cmp_total.antisymm (label v) (label w) ∙ ap ordering_reverse less in
      ap is_lt back
  sorted_if_rising (w ∷ v ∷ xs) up (suc k) d le lt =
      let more = sorted_if_rising (v ∷ xs) up.1 k d (omega arith) (omega arith) in
      rw (add-one (suc k)) (rw (add-one k) at more)

  less_than_later : (x : X) (xs : List X) (i : ℕ) (d : X) → AllByRecursion (λ y. name_cmp (label x) (label y) ≡ Less) xs → i < length xs → name_cmp (label x) (label (get_or xs i d)) ≡ Less
  less_than_later x [] i d h lt = absurd (omega arith)
  less_than_later x (y ∷ xs) zero d h lt = h.0
  less_than_later x (y ∷ xs) (suc i) d h lt = less_than_later x xs i d h.1 (omega arith)

  pub found_in : (p : List ℕ) (xs : List X) (i : ℕ) (d : X) → RisesBy (λ a b. name_cmp (label a) (label b)) xs → i < length xs → name_cmp (label (get_or xs i d)) p ≡ Equal → find (λ x. is_text (label x) p) xs ≡ Some (get_or xs i d)
  found_in p [] i d up lt e = absurd (omega arith)
  found_in p (x ∷ xs) zero d up lt e = ap (λ (b : Bool). cond b (Some x) (find (λ x. is_text (label x) p) xs)) (equal_text (label x) p e)
  found_in p (x ∷ xs) (suc i) d up lt e =
      let same : label (get_or xs i d) ≡ p = (bytes_decides (label (get_or xs i d)) p).0 (equal_text (label (get_or xs i d)) p e) in
      let less : name_cmp (label x) p ≡ Less = subst (λ (n : List ℕ). name_cmp (label x) n ≡ Less) same (less_than_later x xs i d up.0 (omega arith)) in
      ap (λ (b : Bool). cond b (Some x) (find (λ x. is_text (label x) p) xs)) (less_differs (label x) p less) ∙ found_in p xs i d up.1 (omega arith) e

  nowhere_in : (p : List ℕ) (xs : List X) → ((k : ℕ) (d : X) → k < length xs → is_text (label (get_or xs k d)) p ≡ false) → find (λ x. is_text (label x) p) xs ≡ None
  nowhere_in p [] h = refl
  nowhere_in p (x ∷ xs) h = ap (λ (b : Bool). cond b (Some x) (find (λ x. is_text (label x) p) xs)) (h 0 x (omega arith)) ∙ nowhere_in p xs (λ k d lt. h (suc k) d (omega arith))

  pub missing_in : (p : List ℕ) (xs : List X) (i : ℕ) → RisesBy (λ a b. name_cmp (label a) (label b)) xs → IsBinarySearchResult (λ (x : X). name_cmp (label x) p) xs (Err i) → find (λ x. is_text (label x) p) xs ≡ None
  missing_in p xs i up h =
      let split = h (searchable_from_sorted nat_list_cmp_total label xs p (sorted_if_rising xs up)) in
      nowhere_in p xs (λ k d lt. ⊎_elim (λ a. less_differs (label (get_or xs k d)) p (split.0 k d (omega arith) a)) (λ a. greater_differs (label (get_or xs k d)) p (split.1 k d a lt)) (cases_lt k i))

-- two tests that agree on the items find the same
pub find_alike : {X : Type 0} (p q : X → Bool) (xs : List X) → ((i : ℕ) (d : X) → i < length xs → p (get_or xs i d) ≡ q (get_or xs i d)) → find p xs ≡ find q xs
find_alike p q [] h = refl
find_alike p q (x ∷ xs) h = ap (λ (b : Bool). cond b (Some x) (find p xs)) (h 0 x (omega arith)) ∙ ap (λ (o : Option _). cond (q x) (Some x) o) (find_alike p q xs (λ i d lt. h (suc i) d (omega arith)))

-- a module that is there has the name that it has
named_alike : (name : List ℕ) (o : Option Member) (x : Member) → o ≡ Some x → option_map_or (λ (m : Member). is_text m.observed.declaration.name name) o false ≡ is_text (name_in o) name
named_alike name o x e = rw e refl

-- The test of a name, among modules that are there.
pub names_alike : (members : List Member) (name : List ℕ) (ms : List ModuleId) → AreInOrder members ms
    → find (λ (m : ModuleId). option_map_or (λ (x : Member). is_text x.observed.declaration.name name) (numbered members m.0) false) ms ≡ find (λ (m : ModuleId). is_text (name_at members m) name) ms
names_alike members name ms h =
    find_alike (λ (m : ModuleId). option_map_or (λ (x : Member). is_text x.observed.declaration.name name) (numbered members m.0) false) (λ (m : ModuleId). is_text (name_at members m) name) ms
    (λ i d lt.
    let m : ModuleId = get_or ms i d in
    let within = All-get_or (IsWithin (length members)) ms i d lt h.there in
    let there = numbered_there members m.0 within.0 within.1 in
    named_alike name (numbered members m.0) there.0 there.1)

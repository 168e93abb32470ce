-- The list of what is decided has each reference of which something is, with its slot, in order.
use Rattle.std.proofs.Common.{◌≡◌, ◌≢◌, ℕ, zero, suc, ◌+◌, ◌<◌, List, [], ◌∷◌, Option, Some, None, unwrap_or, slice_get, refl, sym, ◌∙◌, ap, subst, ⊎_elim, Contains, Ordering, Less, Equal, arith}
use Rattle.std.specs.List.{AllByRecursion}
use Rattle.std.specs.Ordering.{nat_cmp, ordering_then}
use Rattle.std.specs.Cmp.{nat_cmp_is}
use Rattle.std.proofs.lemmas.List.Elements.{Contains-append_left, Contains-append_right, Contains-append_cases}
use Rattle.jl_logic.specs.Order.{RisesBy}
use Rattle.jl_logic.proofs.Rising.{contains_head, contains_cases, contains_nothing, each_from_members, rises_append}
use Rattle.jl_prim.specs.declared.numbers.ClassId.{ClassId}
use Rattle.jl_loads.specs.declared.slot.PoolSlot.{PoolSlot}
use Rattle.jl_loads.specs.declared.slot.PoolSlot.TheVariants.{Empty, Passed, Failed}
use Rattle.jl_loads.specs.Worlds.{State, class_number, slot_at}
use Rattle.jl_layer.specs.Layers.{numbered}
use Rattle.jl_link.specs.Decided.{Decision, decision_at, decided_in, decided_from, decided, decision_cmp}

-- ---- one reference

-- what the list of one reference has
record IsOne (c : ClassId) (i : ℕ) (y : PoolSlot) (a : Decision) : Type 0 where
  class : a.0 ≡ c
  index : a.1 ≡ i
  slot : y ≡ a.2
  filled : a.2 ≢ Empty

only_one : (c : ClassId) (i : ℕ) (y : PoolSlot) (a : Decision) → y ≢ Empty → Contains ((c, i, y) ∷ []) a → IsOne c i y a
only_one c i y a filled h = ⊎_elim is (contains_nothing a) (contains_cases (c, i, y) a [] h) where
  is : (c, i, y) ≡ a → IsOne c i y a
  is e = record {
    class = sym (ap (λ (z : Decision). z.0) e);
    index = sym (ap (λ (z : Decision). z.1) e);
    slot = ap (λ (z : Decision). z.2) e;
    filled = λ f. filled (ap (λ (z : Decision). z.2) e ∙ f);
  }

in_one : (c : ClassId) (i : ℕ) (y : PoolSlot) (a : Decision) → Contains (decision_at c i y) a → IsOne c i y a
in_one c i Empty a h = contains_nothing a h
in_one c i (Passed t) a h = only_one c i (Passed t) a (λ e. cc e) h
in_one c i (Failed kind message) a h = only_one c i (Failed kind message) a (λ e. cc e) h

one_listed : (c : ClassId) (i : ℕ) (x : PoolSlot) → x ≢ Empty → Contains (decision_at c i x) (c, i, x)
one_listed c i Empty filled = absurd (filled refl)
one_listed c i (Passed t) filled = contains_head (c, i, Passed t) []
one_listed c i (Failed kind message) filled = contains_head (c, i, Failed kind message) []

-- ---- a row

-- what the list of a row has
record IsInRow (c : ClassId) (i : ℕ) (row : List PoolSlot) (a : Decision) : Type 0 where
  class : a.0 ≡ c
  place : ℕ
  index : a.1 ≡ i + place
  slot : slice_get row place ≡ Some a.2
  filled : a.2 ≢ Empty

head_of_row : (c : ClassId) (i : ℕ) (y : PoolSlot) (row : List PoolSlot) (a : Decision) → IsOne c i y a → IsInRow c i (y ∷ row) a
head_of_row c i y row a one = record { class = one.class; place = 0; index = omega (arith, one.index); slot = ap Some one.slot; filled = one.filled }

rest_of_row : (c : ClassId) (i : ℕ) (y : PoolSlot) (row : List PoolSlot) (a : Decision) → IsInRow c (i + 1) row a → IsInRow c i (y ∷ row) a
rest_of_row c i y row a rest = record { class = rest.class; place = suc rest.place; index = omega (arith, rest.index); slot = rest.slot; filled = rest.filled }

in_row : (c : ClassId) (i : ℕ) (row : List PoolSlot) (a : Decision) → Contains (decided_in c i row) a → IsInRow c i row a
unfolding decided_in
in_row c i [] a h = contains_nothing a h
in_row c i (y ∷ row) a h =
    ⊎_elim
    (λ k. head_of_row c i y row a (in_one c i y a k))
    (λ k. rest_of_row c i y row a (in_row c (i + 1) row a k))
    (Contains-append_cases (decision_at c i y) (decided_in c (i + 1) row) a h)

row_listed : (c : ClassId) (i : ℕ) (row : List PoolSlot) (k j : ℕ) (x : PoolSlot) → j ≡ i + k → slice_get row k ≡ Some x → x ≢ Empty → Contains (decided_in c i row) (c, j, x)
unfolding decided_in
row_listed c i [] k j x at e filled = absurd (cc e)
row_listed c i (y ∷ row) zero j x at e filled =
    let same : y ≡ x = cc e in
    let here : j ≡ i = omega (arith, at) in
    Contains-append_left (decision_at c i y) (decided_in c (i + 1) row) (c, j, x) (subst (λ (n : ℕ). Contains (decision_at c i y) (c, n, x)) (sym here) (subst (λ (z : PoolSlot). Contains (decision_at c i z) (c, i, x)) (sym same) (one_listed c i x filled)))
row_listed c i (y ∷ row) (suc k) j x at e filled =
    Contains-append_right (decision_at c i y) (decided_in c (i + 1) row) (c, j, x) (row_listed c (i + 1) row k j x (omega (arith, at)) e filled)

-- ---- all rows

-- what the list of rows has
record IsInRows (p : ℕ) (rows : List (List PoolSlot)) (a : Decision) : Type 0 where
  place : ℕ
  class : a.0 ≡ class_number (p + place)
  row : List PoolSlot
  at : slice_get rows place ≡ Some row
  slot : slice_get row a.1 ≡ Some a.2
  filled : a.2 ≢ Empty

first_row : (p : ℕ) (row : List PoolSlot) (rows : List (List PoolSlot)) (a : Decision) → IsInRow (class_number p) 0 row a → IsInRows p (row ∷ rows) a
first_row p row rows a one =
    let same : p ≡ p + 0 = omega arith in
    let index : a.1 ≡ one.place = omega (arith, one.index) in
    record { place = 0; class = one.class ∙ ap class_number same; row = row; at = refl; slot = ap (slice_get row) index ∙ one.slot; filled = one.filled }

other_rows : (p : ℕ) (row : List PoolSlot) (rows : List (List PoolSlot)) (a : Decision) → IsInRows (p + 1) rows a → IsInRows p (row ∷ rows) a
other_rows p row rows a rest =
    let same : p + 1 + rest.place ≡ p + suc rest.place = omega arith in
    record { place = suc rest.place; class = rest.class ∙ ap class_number same; row = rest.row; at = rest.at; slot = rest.slot; filled = rest.filled }

in_rows : (p : ℕ) (rows : List (List PoolSlot)) (a : Decision) → Contains (decided_from p rows) a → IsInRows p rows a
unfolding decided_from
in_rows p [] a h = contains_nothing a h
in_rows p (row ∷ rows) a h =
    ⊎_elim
    (λ k. first_row p row rows a (in_row (class_number p) 0 row a k))
    (λ k. other_rows p row rows a (in_rows (p + 1) rows a k))
    (Contains-append_cases (decided_in (class_number p) 0 row) (decided_from (p + 1) rows) a h)

rows_listed : (p : ℕ) (rows : List (List PoolSlot)) (q : ℕ) (c : ClassId) (row : List PoolSlot) (i : ℕ) (x : PoolSlot) → c ≡ class_number (p + q) → slice_get rows q ≡ Some row → slice_get row i ≡ Some x → x ≢ Empty → Contains (decided_from p rows) (c, i, x)
unfolding decided_from
rows_listed p [] q c row i x is at e filled = absurd (cc at)
rows_listed p (r ∷ rows) zero c row i x is at e filled =
    let same : r ≡ row = cc at in
    let here : p + 0 ≡ p = omega arith in
    let one : Contains (decided_in (class_number p) 0 row) (class_number p, i, x) = row_listed (class_number p) 0 row i i x (omega arith) e filled in
    Contains-append_left (decided_in (class_number p) 0 r) (decided_from (p + 1) rows) (c, i, x) (subst (λ (d : ClassId). Contains (decided_in (class_number p) 0 r) (d, i, x)) (sym (is ∙ ap class_number here)) (subst (λ (z : List PoolSlot). Contains (decided_in (class_number p) 0 z) (class_number p, i, x)) (sym same) one))
rows_listed p (r ∷ rows) (suc q) c row i x is at e filled =
    let same : p + suc q ≡ p + 1 + q = omega arith in
    Contains-append_right (decided_in (class_number p) 0 r) (decided_from (p + 1) rows) (c, i, x) (rows_listed (p + 1) rows q c row i x (is ∙ ap class_number same) at e filled)

-- ---- a world

pub decided_filled : (s : State) (d : ClassId) (i : ℕ) (x : PoolSlot) → Contains (decided s) (d, i, x) → x ≢ Empty
decided_filled s d i x h = (in_rows 0 s.slots (d, i, x) h).filled

pub decided_slot : (s : State) (d : ClassId) (i : ℕ) (x : PoolSlot) → Contains (decided s) (d, i, x) → slot_at s d i ≡ x
decided_slot s d i x h =
    let is = in_rows 0 s.slots (d, i, x) h in
    let number : d.0 ≡ suc is.place = ap (λ (c : ClassId). c.0) is.class ∙ omega arith in
    let row : numbered s.slots d.0 ≡ Some is.row = ap (numbered s.slots) number ∙ is.at in
    ap (λ (o : Option (List PoolSlot)). unwrap_or (slice_get (unwrap_or o []) i) Empty) row ∙ ap (λ (o : Option PoolSlot). unwrap_or o Empty) is.slot

-- a slot that is filled is in a row
filled_in_row : (row : List PoolSlot) (i : ℕ) (x : PoolSlot) (o : Option PoolSlot) → slice_get row i ≡ o → unwrap_or o Empty ≡ x → x ≢ Empty → slice_get row i ≡ Some x
filled_in_row row i x None at e filled = absurd (filled (sym e))
filled_in_row row i x (Some y) at e filled = at ∙ ap Some e

in_no_row : (i : ℕ) (x : PoolSlot) (o : Option (List PoolSlot)) → o ≡ None → unwrap_or (slice_get (unwrap_or o []) i) Empty ≡ x → x ≢ Empty → ⊥
in_no_row i x None none e filled = filled (sym e)
in_no_row i x (Some row) none e filled = cc none

pub decided_listed : (s : State) (d : ClassId) (i : ℕ) (x : PoolSlot) → slot_at s d i ≡ x → x ≢ Empty → Contains (decided s) (d, i, x)
decided_listed s d i x e filled = by d.0 refl (numbered s.slots d.0) refl where
  by : (n : ℕ) → d.0 ≡ n → (o : Option (List PoolSlot)) → numbered s.slots d.0 ≡ o → Contains (decided s) (d, i, x)
  by n is None at = absurd (in_no_row i x (numbered s.slots d.0) at e filled)
  by zero is (Some row) at = absurd (cc (ap (numbered s.slots) is, at))
  by (suc q) is (Some row) at =
      let number : d ≡ class_number (0 + q) = ap (λ (n : ℕ). let c : ClassId = record { 0 = n } in c) (is ∙ omega arith) in
      let there : slice_get row i ≡ Some x = filled_in_row row i x (slice_get row i) refl (sym (ap (λ (o : Option (List PoolSlot)). unwrap_or (slice_get (unwrap_or o []) i) Empty) at) ∙ e) filled in
      rows_listed 0 s.slots q d row i x number (sym (ap (numbered s.slots) is) ∙ at) there filled

-- ---- the order

is_less : (n m : ℕ) → n < m → nat_cmp n m ≡ Less
is_less n m lt = sym (nat_cmp_is n m Less lt)

lower_class : (a b : Decision) → a.0.0 < b.0.0 → decision_cmp a b ≡ Less
lower_class a b lt = ap (λ (o : Ordering). ordering_then o (nat_cmp a.1 b.1)) (is_less a.0.0 b.0.0 lt)

nat_same : (n : ℕ) → nat_cmp n n ≡ Equal
nat_same n = sym (nat_cmp_is n n Equal refl)

lower_index : (a b : Decision) → a.0 ≡ b.0 → a.1 < b.1 → decision_cmp a b ≡ Less
lower_index a b same lt =
    ap (λ (o : Ordering). ordering_then o (nat_cmp a.1 b.1)) (ap (λ (c : ClassId). nat_cmp a.0.0 c.0) (sym same) ∙ nat_same a.0.0)
    ∙ is_less a.1 b.1 lt

-- all of one list before all of another
all_before : (xs ys : List Decision) → ((a b : Decision) → Contains xs a → Contains ys b → decision_cmp a b ≡ Less) → AllByRecursion (λ a. AllByRecursion (λ b. decision_cmp a b ≡ Less) ys) xs
all_before xs ys h =
    each_from_members (λ (a : Decision). AllByRecursion (λ (b : Decision). decision_cmp a b ≡ Less) ys) xs (λ a k. each_from_members (λ (b : Decision). decision_cmp a b ≡ Less) ys (λ b l. h a b k l))

one_rises : (c : ClassId) (i : ℕ) (x : PoolSlot) → RisesBy decision_cmp (decision_at c i x)
one_rises c i Empty = tt
one_rises c i (Passed t) = (tt, tt)
one_rises c i (Failed kind message) = (tt, tt)

row_rises : (c : ClassId) (i : ℕ) (row : List PoolSlot) → RisesBy decision_cmp (decided_in c i row)
unfolding decided_in
row_rises c i [] = tt
row_rises c i (x ∷ row) = rises_append decision_cmp (decision_at c i x) (decided_in c (i + 1) row) (one_rises c i x) (row_rises c (i + 1) row) (all_before (decision_at c i x) (decided_in c (i + 1) row) before) where
  before : (a b : Decision) → Contains (decision_at c i x) a → Contains (decided_in c (i + 1) row) b → decision_cmp a b ≡ Less
  before a b k l =
      let one = in_one c i x a k in
      let rest = in_row c (i + 1) row b l in
      lower_index a b (one.class ∙ sym rest.class) (omega (arith, one.index, rest.index))

rows_rise : (p : ℕ) (rows : List (List PoolSlot)) → RisesBy decision_cmp (decided_from p rows)
unfolding decided_from
rows_rise p [] = tt
rows_rise p (row ∷ rows) =
    rises_append decision_cmp (decided_in (class_number p) 0 row) (decided_from (p + 1) rows) (row_rises (class_number p) 0 row) (rows_rise (p + 1) rows) (all_before (decided_in (class_number p) 0 row) (decided_from (p + 1) rows) before) where
      before : (a b : Decision) → Contains (decided_in (class_number p) 0 row) a → Contains (decided_from (p + 1) rows) b → decision_cmp a b ≡ Less
      before a b k l =
          let one = in_row (class_number p) 0 row a k in
          let rest = in_rows (p + 1) rows b l in
          lower_class a b (omega (arith, ap (λ (c : ClassId). c.0) one.class, ap (λ (c : ClassId). c.0) rest.class))

pub decided_rises : (s : State) → RisesBy decision_cmp (decided s)
decided_rises s = rows_rise 0 s.slots

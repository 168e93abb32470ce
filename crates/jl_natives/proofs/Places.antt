-- Looking for a native of a row, place by place.
use Rattle.std.proofs.Common.{◌≡◌, ℕ, zero, suc, ◌<◌, ◌==◌, List, [], ◌∷◌, length, get_or, slice_get, slice_set, map, drop, Some, Result, IsTrue, true, false, refl, ◌∙◌, sym, arith, add-one}
use Rattle.std.specs.List.{position_from}
use Rattle.std.proofs.lemmas.List.{map-set}
use Rattle.jl_natives.specs.declared.plain.Plain.{Plain}
use Rattle.jl_natives.specs.declared.native.NativeEnd.{NativeEnd}
use Rattle.std.proofs.lemmas.Bool.{eqb-true}
use Rattle.jl_natives.specs.Table.{takes}
use Rattle.jl_natives.specs.Boxes.{View, row_at, IsCalled, Asks}

-- the one at the place has the row
pub found_there : {X : Type 0} (view : X → View) (row : ℕ) (items : List X) (at : ℕ) (x : X) → at < length items → x ≡ get_or items at x → ((view x).row == row) ≡ true → (k : ℕ) → position_from (λ v. v.row == row) k (drop at (map view items)) ≡ Some k
found_there view row [] at x lt is e k = absurd (omega arith)
found_there view row (y ∷ ys) zero x lt is e k = rw (sym is, e) refl
found_there view row (y ∷ ys) (suc at) x lt is e k = found_there view row ys at x (omega arith) is e k

-- the one at the place has another row
pub passed_over : {X : Type 0} (view : X → View) (row : ℕ) (items : List X) (at : ℕ) (x : X) → at < length items → x ≡ get_or items at x → ((view x).row == row) ≡ false → (k : ℕ) → position_from (λ v. v.row == row) k (drop at (map view items)) ≡ position_from (λ v. v.row == row) (suc k) (drop (suc at) (map view items))
passed_over view row [] at x lt is e k = absurd (omega arith)
passed_over view row (y ∷ ys) zero x lt is e k = rw (sym is, e, add-one) refl
passed_over view row (y ∷ ys) (suc at) x lt is e k = passed_over view row ys at x (omega arith) is e k

view_there : {X : Type 0} (view : X → View) (items : List X) (at : ℕ) (x : X) → at < length items → x ≡ get_or items at x → slice_get (map view items) at ≡ Some (view x)
view_there view [] at x lt is = absurd (omega arith)
view_there view (y ∷ ys) zero x lt is = rw (sym is) refl
view_there view (y ∷ ys) (suc at) x lt is = view_there view ys at x (omega arith) is

-- the one at the place was asked, and stands there as it is now
pub one_asked : {X : Type 0} (view : X → View) (items : List X) (at : ℕ) (x y : X) (args : List Plain) (result : Result Plain NativeEnd) → at < length items → x ≡ get_or items at x → IsCalled (view x) args result (view y) → Asks (map view items) at args result (map view (slice_set items at y))
one_asked view items at x y args result lt is answers =
    record { before = view x; after = view y; there = view_there view items at x lt is; answers = answers; others = map-set view items at y }

-- its row, by the list of what is seen
pub row_there : {X : Type 0} (view : X → View) (items : List X) (at : ℕ) (x : X) → at < length items → x ≡ get_or items at x → row_at (map view items) at ≡ (view x).row
row_there view [] at x lt is = absurd (omega arith)
row_there view (y ∷ ys) zero x lt is = rw (sym is) refl
row_there view (y ∷ ys) (suc at) x lt is = row_there view ys at x (omega arith) is

pub has_row_there : {X : Type 0} (view : X → View) (row : ℕ) (items : List X) (at : ℕ) (x : X) → at < length items → x ≡ get_or items at x → ((view x).row == row) ≡ true → row_at (map view items) at ≡ row
has_row_there view row items at x lt is e = row_there view items at x lt is ∙ eqb-true (view x).row row e

-- what the native at a place takes
pub taken_there : {X : Type 0} (view : X → View) (items : List X) (at : ℕ) (x : X) (args : List Plain) → at < length items → x ≡ get_or items at x → IsTrue (takes (row_at (map view items) at) args) → IsTrue (takes (view x).row args)
taken_there view items at x args lt is all = let e = row_there view items at x lt is in rw e at all

-- The slots that were taken are those of the objects.
use Rattle.std.proofs.Common.{◌≡◌, ◌+◌, ◌-◌, ℕ, zero, suc, List, [], ◌∷◌, ◌++◌, min, Some, slice_get, slice_set, refl, sym, ◌∙◌, ap, arith, length-append}
use Rattle.std.specs.List.{sum_by}
use Rattle.std.proofs.lemmas.List.Sums.{sum_by-cons, sum_by_push}
use Rattle.std.proofs.lemmas.Option.{none-some}
use Rattle.std.proofs.lemmas.List.{length-set}
use Rattle.jl_logic.specs.Counts.{last_count}
use Rattle.jl_prim.specs.declared.numbers.ObjRef.{ObjRef}
use Rattle.jl_heap.specs.declared.value.Value.{Value}
use Rattle.jl_heap.specs.declared.shape.Mirror.{Mirror}
use Rattle.jl_heap.specs.declared.shape.Shape.{Shape}
use Rattle.jl_heap.specs.declared.shape.Shape.TheVariants as shapes
use Rattle.jl_heap.specs.declared.shape.Object.{Object}
use Rattle.jl_heap.specs.Objects.{shape_slots, mirror_slots, new_object}
use Rattle.jl_heap.specs.Heap.{HeapState, changed_at, at_number, object_at, with_object, with_changed, with_slot, with_mirror, with_units, with_item, with_text, with_listed, begun_in, begun_by, raised_by, list_items, mirrored}
use Rattle.jl_heap.specs.Laws.{taken, IsCounted}
use Rattle.jl_heap.proofs.Alike.{object}

sum_set : {X : Type 0} (f : X → ℕ) (xs : List X) (i : ℕ) (x y : X) → slice_get xs i ≡ Some x → sum_by f (slice_set xs i y) + f x ≡ sum_by f xs + f y
sum_set f [] i x y e = absurd (none-some x e)
sum_set f (z ∷ xs) zero x y e = let same : z ≡ x = cc in rw same (omega (arith, sum_by-cons f x xs, sum_by-cons f y xs))
sum_set f (z ∷ xs) (suc i) x y e = omega (arith, sum_by-cons f z xs, sum_by-cons f z (slice_set xs i y), sum_set f xs i x y e)

sum_changed : {X : Type 0} (f : X → ℕ) (change : X → X) (xs : List X) (n : ℕ) (x : X) → at_number xs n ≡ Some x
    → sum_by f (changed_at (n - 1) change xs) + f x ≡ sum_by f xs + f (change x)
sum_changed f change xs zero x e = absurd (none-some x e)
sum_changed f change xs (suc i) x e = let same : suc i - 1 ≡ i = omega arith in rw (same, e) (sum_set f xs i x (change x) e)

grown : (used s t a b n most : ℕ) → used ≡ min s most → t + a ≡ s + b → b ≡ a + n → min (used + n) most ≡ min t most
grown used s t a b n most u st ab = omega arith

kept : (used s t a b most : ℕ) → used ≡ min s most → t + a ≡ s + b → b ≡ a → used ≡ min t most
kept used s t a b most u st ab = omega arith

-- one object more
pub new_counted : (shape : Shape) (h : HeapState) → IsCounted h → IsCounted (with_object shape h)
new_counted shape h k =
    grown h.used (taken h.objects) (taken (h.objects ++ new_object shape ∷ [])) 0 (shape_slots shape) (shape_slots shape) last_count k
    (let more = sum_by_push (λ (x : Object). shape_slots x.shape) h.objects (new_object shape) in omega (arith, more)) (omega arith)

-- an object that takes so many slots more
more_counted : (change : Object → Object) (h : HeapState) (o : ObjRef) (x : Object) (n : ℕ) → object_at h o ≡ Some x → shape_slots (change x).shape ≡ shape_slots x.shape + n → IsCounted h
    → raised_by h.used n ≡ min (taken (changed_at (o.0 - 1) change h.objects)) last_count
more_counted change h o x n e slots k =
    grown h.used (taken h.objects) (taken (changed_at (o.0 - 1) change h.objects)) (shape_slots x.shape) (shape_slots (change x).shape) n last_count k
    (sum_changed (λ (y : Object). shape_slots y.shape) change h.objects o.0 x e) slots

same_counted : (change : Object → Object) (h : HeapState) (o : ObjRef) (x : Object) → object_at h o ≡ Some x → shape_slots (change x).shape ≡ shape_slots x.shape → IsCounted h
    → IsCounted (with_changed o change h)
same_counted change h o x e slots k =
    kept h.used (taken h.objects) (taken (changed_at (o.0 - 1) change h.objects)) (shape_slots x.shape) (shape_slots (change x).shape) last_count k
    (sum_changed (λ (y : Object). shape_slots y.shape) change h.objects o.0 x e) slots

slot_slots : (at : ℕ) (v : Value) (shape : Shape) (slots : List Value) → shape_slots (with_slot at v (object shape slots)).shape ≡ shape_slots shape
slot_slots at v (shapes.Object c fields) slots = refl
slot_slots at v (shapes.Array e len) slots = refl
slot_slots at v (shapes.Text c units) slots = refl
slot_slots at v (shapes.List c items) slots = ap (λ n. 1 + n) (length-set items at v)
slot_slots at v (shapes.Mirror c m) slots = refl

mirror_slots_same : (what m : Mirror) (shape : Shape) (slots : List Value) → mirrored (object shape slots) ≡ Some m → mirror_slots what ≡ mirror_slots m → shape_slots (with_mirror what (object shape slots)).shape ≡ shape_slots shape
mirror_slots_same what m (shapes.Object c fields) slots e f = refl
mirror_slots_same what m (shapes.Array g len) slots e f = refl
mirror_slots_same what m (shapes.Text c units) slots e f = refl
mirror_slots_same what m (shapes.List c items) slots e f = refl
mirror_slots_same what m (shapes.Mirror c n) slots e f = let same : n ≡ m = cc in ap (λ k. 1 + k) (f ∙ ap mirror_slots (sym same))

text_slots_more : (more : List ℕ) (shape : Shape) (slots : List Value) → shape_slots (with_units more (object shape slots)).shape ≡ shape_slots shape + begun_in (object shape slots) more
text_slots_more more (shapes.Object c fields) slots = omega arith
text_slots_more more (shapes.Array e len) slots = omega arith
text_slots_more more (shapes.Text c units) slots = rw (length-append units more) (omega arith)
text_slots_more more (shapes.List c items) slots = omega arith
text_slots_more more (shapes.Mirror c m) slots = omega arith

list_slots_more : (v : Value) (old : List Value) (shape : Shape) (slots : List Value) → list_items (object shape slots) ≡ Some old → shape_slots (with_item v (object shape slots)).shape ≡ shape_slots shape + 1
list_slots_more v old (shapes.Object c fields) slots e = absurd (none-some old e)
list_slots_more v old (shapes.Array g len) slots e = absurd (none-some old e)
list_slots_more v old (shapes.Text c units) slots e = absurd (none-some old e)
list_slots_more v old (shapes.List c items) slots e = rw (length-append items (v ∷ [])) (omega arith)
list_slots_more v old (shapes.Mirror c m) slots e = absurd (none-some old e)

pub slot_counted : (at : ℕ) (v : Value) (h : HeapState) (o : ObjRef) (x : Object) → object_at h o ≡ Some x → IsCounted h → IsCounted (with_changed o (with_slot at v) h)
slot_counted at v h o x e k = same_counted (with_slot at v) h o x e (slot_slots at v x.shape x.slots) k

pub mirror_counted : (what m : Mirror) (h : HeapState) (o : ObjRef) (x : Object) → object_at h o ≡ Some x → mirrored x ≡ Some m → mirror_slots what ≡ mirror_slots m → IsCounted h
    → IsCounted (with_changed o (with_mirror what) h)
mirror_counted what m h o x e is same k = same_counted (with_mirror what) h o x e (mirror_slots_same what m x.shape x.slots is same) k

pub text_counted : (more : List ℕ) (h : HeapState) (o : ObjRef) (x : Object) → object_at h o ≡ Some x → IsCounted h → IsCounted (with_text o more h)
text_counted more h o x e k =
    let begun : begun_by h o more ≡ begun_in x more = rw e refl in
    ap (raised_by h.used) begun ∙ more_counted (with_units more) h o x (begun_in x more) e (text_slots_more more x.shape x.slots) k

pub list_counted : (v : Value) (items : List Value) (h : HeapState) (o : ObjRef) (x : Object) → object_at h o ≡ Some x → list_items x ≡ Some items → IsCounted h → IsCounted (with_listed o v h)
list_counted v items h o x e is k = more_counted (with_item v) h o x 1 e (list_slots_more v items x.shape x.slots is) k

-- Objects have the slots of their shape.
use Rattle.std.proofs.Common.{◌≡◌, ◌-◌, ◌<◌, ℕ, zero, suc, List, [], ◌∷◌, ◌++◌, length, map, replicate, All, Option, None, Some, slice_get, slice_set, slice_index_or, option_map, refl, sym, ◌∙◌, ap, subst, arith}
use Rattle.std.specs.Option.{option_map_or}
use Rattle.std.proofs.lemmas.Option.{none-some, same_Some, slice_get-map, slice_get_within, slice_get-get_or, get_or_from_slice_get}
use Rattle.std.proofs.lemmas.List.{length-map, length-replicate}
use Rattle.std.proofs.lemmas.List.Elements.{All-set, All-push}
use Rattle.jl_prim.specs.declared.numbers.ObjRef.{ObjRef}
use Rattle.jl_heap.specs.declared.value.Kind.{Kind}
use Rattle.jl_heap.specs.declared.value.Kind.TheVariants as kinds
use Rattle.jl_heap.specs.declared.value.Value.{Value}
use Rattle.jl_heap.specs.declared.shape.Mirror.{Mirror}
use Rattle.jl_heap.specs.declared.shape.Shape.{Shape}
use Rattle.jl_heap.specs.declared.shape.Shape.TheVariants as shapes
use Rattle.jl_heap.specs.declared.shape.Object.{Object}
use Rattle.jl_heap.specs.Values.{kind_of, first_value}
use Rattle.jl_heap.specs.Objects.{element_kind, new_object, slots_of, slot_kinds, slot_count, FitsShape}
use Rattle.std.specs.Option.{option_and_then}
use Rattle.jl_heap.specs.Heap.{HeapState, at_number, object_at, kinds_in, with_changed, with_slot, with_mirror, with_units, with_item, slot_at}
use Rattle.jl_heap.proofs.Alike.{object, slot_values}
use Rattle.jl_heap.proofs.Staying.{seen_changed}

-- what a slot begins with is of its kind
first_kind : (k : Kind) → kind_of (first_value k) ≡ k
first_kind kinds.Int = refl
first_kind kinds.Long = refl
first_kind kinds.Ref = refl
first_kind kinds.Top = refl

first_kinds : (ks : List Kind) → map kind_of (map first_value ks) ≡ ks
first_kinds [] = refl
first_kinds (k ∷ ks) = rw (first_kind k, first_kinds ks) refl

copied_kinds : (n : ℕ) (v : Value) → map kind_of (replicate n v) ≡ replicate n (kind_of v)
copied_kinds zero v = refl
copied_kinds (suc n) v = ap (λ ks. kind_of v ∷ ks) (copied_kinds n v)

pub new_fits : (shape : Shape) → FitsShape (new_object shape)
new_fits (shapes.Object c fields) = first_kinds fields
new_fits (shapes.Array e len) = copied_kinds len (first_value (element_kind e)) ∙ ap (replicate len) (first_kind (element_kind e))
new_fits (shapes.Text c units) = refl
new_fits (shapes.List c items) = refl
new_fits (shapes.Mirror c m) = refl

-- a value of the same kind in a slot
set_kinds : (xs : List Value) (at : ℕ) (v : Value) → slice_get (map kind_of xs) at ≡ Some (kind_of v) → map kind_of (slice_set xs at v) ≡ map kind_of xs
set_kinds [] at v e = absurd (none-some (kind_of v) e)
set_kinds (x ∷ xs) zero v e = ap (λ k. k ∷ map kind_of xs) (sym (same_Some (kind_of x) (kind_of v) e))
set_kinds (x ∷ xs) (suc at) v e = ap (λ ks. kind_of x ∷ ks) (set_kinds xs at v e)

slot_fits : (at : ℕ) (v : Value) (shape : Shape) (slots : List Value) → slice_get (map kind_of (slots_of (object shape slots))) at ≡ Some (kind_of v) → FitsShape (object shape slots)
    → FitsShape (with_slot at v (object shape slots))
slot_fits at v (shapes.Object c fields) slots e f = set_kinds slots at v e ∙ f
slot_fits at v (shapes.Array g len) slots e f = set_kinds slots at v e ∙ f
slot_fits at v (shapes.Text c units) slots e f = set_kinds slots at v e ∙ f
slot_fits at v (shapes.List c items) slots e f = refl
slot_fits at v (shapes.Mirror c m) slots e f = set_kinds slots at v e ∙ f

mirror_fits : (what : Mirror) (shape : Shape) (slots : List Value) → FitsShape (object shape slots) → FitsShape (with_mirror what (object shape slots))
mirror_fits what (shapes.Object c fields) slots f = f
mirror_fits what (shapes.Array g len) slots f = f
mirror_fits what (shapes.Text c units) slots f = f
mirror_fits what (shapes.List c items) slots f = f
mirror_fits what (shapes.Mirror c m) slots f = f

units_fit : (more : List ℕ) (shape : Shape) (slots : List Value) → FitsShape (object shape slots) → FitsShape (with_units more (object shape slots))
units_fit more (shapes.Object c fields) slots f = f
units_fit more (shapes.Array g len) slots f = f
units_fit more (shapes.Text c units) slots f = f
units_fit more (shapes.List c items) slots f = f
units_fit more (shapes.Mirror c m) slots f = f

item_fits : (v : Value) (shape : Shape) (slots : List Value) → FitsShape (object shape slots) → FitsShape (with_item v (object shape slots))
item_fits v (shapes.Object c fields) slots f = f
item_fits v (shapes.Array g len) slots f = f
item_fits v (shapes.Text c units) slots f = f
item_fits v (shapes.List c items) slots f = refl
item_fits v (shapes.Mirror c m) slots f = f

-- the object at a place
pub fits_at : (xs : List Object) (i : ℕ) (x : Object) → slice_get xs i ≡ Some x → All FitsShape xs → FitsShape x
fits_at xs i x e all = subst FitsShape (get_or_from_slice_get xs i x x e) (all i x (slice_get_within xs i x e))

pub fits_numbered : (xs : List Object) (n : ℕ) (x : Object) → at_number xs n ≡ Some x → All FitsShape xs → FitsShape x
fits_numbered xs zero x e all = absurd (none-some x e)
fits_numbered xs (suc i) x e all = fits_at xs i x e all

counted : (shape : Shape) → length (slot_kinds shape) ≡ slot_count shape
counted (shapes.Object c fields) = refl
counted (shapes.Array e len) = length-replicate len (element_kind e)
counted (shapes.Text c units) = refl
counted (shapes.List c items) = length-map items kind_of
counted (shapes.Mirror c m) = refl

-- the kinds of the slots of what may be an object
abbrev kinds_of : Option Object → List Kind
kinds_of y = option_map_or (λ (x : Object). map kind_of (slots_of x)) y []

-- what is said of the slots of an object that is there
pub kinds_there : (h : HeapState) (o : ObjRef) (x : Object) → object_at h o ≡ Some x → All FitsShape h.objects → kinds_in h o ≡ slot_kinds x.shape
kinds_there h o x e all = ap kinds_of e ∙ fits_numbered h.objects o.0 x e all

pub count_there : (h : HeapState) (o : ObjRef) (x : Object) → object_at h o ≡ Some x → All FitsShape h.objects → length (kinds_in h o) ≡ slot_count x.shape
count_there h o x e all = ap length (kinds_there h o x e all) ∙ counted x.shape

-- a slot that is there is one of an object
pub record SlotThere (h : HeapState) (o : ObjRef) (at : ℕ) : Type 0 where
  pub object : Object
  pub there : object_at h o ≡ Some object
  pub kinds : kinds_in h o ≡ map kind_of (slots_of object)
  pub within : at < length (slots_of object)

pub slot_there : (h : HeapState) (o : ObjRef) (at : ℕ) → at < length (kinds_in h o) → SlotThere h o at
slot_there h o at lt = by (object_at h o) refl lt
  where
    by : (y : Option Object) → object_at h o ≡ y → at < length (option_map_or (λ (x : Object). map kind_of (slots_of x)) y []) → SlotThere h o at
    by None e l = absurd (omega arith)
    by (Some x) e l = record { object = x; there = e; kinds = ap kinds_of e; within = omega (arith, length-map (slots_of x) kind_of) }

at_place : (xs : List Object) (n : ℕ) (x : Object) → at_number xs n ≡ Some x → slice_get xs (n - 1) ≡ Some x
at_place xs zero x e = absurd (none-some x e)
at_place xs (suc i) x e = let same : suc i - 1 ≡ i = omega arith in rw same e

-- the object that is read at the place of a slot that is there
same_object : (h : HeapState) (o : ObjRef) (at : ℕ) (x : Object) (t : SlotThere h o at) → x ≡ slice_index_or h.objects (o.0 - 1) x → t.object ≡ x
same_object h o at x t is = sym (is ∙ get_or_from_slice_get h.objects (o.0 - 1) t.object x (at_place h.objects o.0 t.object t.there))

-- the kind of what is read there
pub kind_read : (h : HeapState) (o : ObjRef) (at : ℕ) (x : Object) (ys : List Value) (d : Value) → at < length (kinds_in h o) → x ≡ slice_index_or h.objects (o.0 - 1) x → ys ≡ slots_of x
    → slice_get (kinds_in h o) at ≡ Some (kind_of (slice_index_or ys at d))
kind_read h o at x ys d lt is values =
    let t : SlotThere h o at = slot_there h o at lt in
    let zs : List Value = slots_of t.object in
    let same : ys ≡ zs = values ∙ ap slots_of (sym (same_object h o at x t is)) in
    ap (λ ks. slice_get ks at) t.kinds ∙ slice_get-map kind_of zs at ∙ ap (option_map kind_of) (slice_get-get_or zs at d t.within)
    ∙ ap (λ l. Some (kind_of (slice_index_or l at d))) (sym same)

-- what is found where a slot is set
pub record Found (h : HeapState) (o : ObjRef) (at : ℕ) (k : Kind) (x : Object) : Type 0 where
  pub stands : slice_get h.objects (o.0 - 1) ≡ Some x
  pub kind : slice_get (map kind_of (slots_of x)) at ≡ Some k

pub found : (h : HeapState) (o : ObjRef) (at : ℕ) (k : Kind) (x : Object) → x ≡ slice_index_or h.objects (o.0 - 1) x → slice_get (kinds_in h o) at ≡ Some k → Found h o at k x
found h o at k x is e =
    let t : SlotThere h o at = slot_there h o at (slice_get_within (kinds_in h o) at k e) in
    let same : t.object ≡ x = same_object h o at x t is in
    let here : slice_get (map kind_of (slots_of t.object)) at ≡ Some k = ap (λ ks. slice_get ks at) (sym t.kinds) ∙ e in
    record { stands = at_place h.objects o.0 t.object t.there ∙ ap Some same; kind = subst (λ (y : Object). slice_get (map kind_of (slots_of y)) at ≡ Some k) same here }

-- changes that keep the slots fit
pub all_with_slot : (xs : List Object) (i at : ℕ) (v : Value) (x : Object) → slice_get xs i ≡ Some x → slice_get (map kind_of (slots_of x)) at ≡ Some (kind_of v) → All FitsShape xs
    → All FitsShape (slice_set xs i (with_slot at v x))
all_with_slot xs i at v x e k all = All-set FitsShape xs i (with_slot at v x) (slot_fits at v x.shape x.slots k (fits_at xs i x e all)) all

pub all_with_mirror : (xs : List Object) (i : ℕ) (what : Mirror) (x : Object) → slice_get xs i ≡ Some x → All FitsShape xs → All FitsShape (slice_set xs i (with_mirror what x))
all_with_mirror xs i what x e all = All-set FitsShape xs i (with_mirror what x) (mirror_fits what x.shape x.slots (fits_at xs i x e all)) all

pub all_with_units : (xs : List Object) (i : ℕ) (more : List ℕ) (x : Object) → slice_get xs i ≡ Some x → All FitsShape xs → All FitsShape (slice_set xs i (with_units more x))
all_with_units xs i more x e all = All-set FitsShape xs i (with_units more x) (units_fit more x.shape x.slots (fits_at xs i x e all)) all

pub all_with_item : (xs : List Object) (i : ℕ) (v : Value) (x : Object) → slice_get xs i ≡ Some x → All FitsShape xs → All FitsShape (slice_set xs i (with_item v x))
all_with_item xs i v x e all = All-set FitsShape xs i (with_item v x) (item_fits v x.shape x.slots (fits_at xs i x e all)) all

pub all_with_object : (xs : List Object) (shape : Shape) → All FitsShape xs → All FitsShape (xs ++ new_object shape ∷ [])
all_with_object xs shape all = All-push FitsShape xs (new_object shape) all (new_fits shape)

-- a slot that is set keeps the kinds of all slots
kinds_seen : (y : Option Object) → kinds_of y ≡ option_map_or (λ ks. ks) (option_map (λ (x : Object). map kind_of (slots_of x)) y) []
kinds_seen None = refl
kinds_seen (Some x) = refl

pub kinds_stay : (at : ℕ) (v : Value) (h : HeapState) (o p : ObjRef) → slice_get (kinds_in h o) at ≡ Some (kind_of v) → kinds_in (with_changed o (with_slot at v) h) p ≡ kinds_in h p
kinds_stay at v h o p e =
    let t : SlotThere h o at = slot_there h o at (slice_get_within (kinds_in h o) at (kind_of v) e) in
    let here : slice_get (map kind_of (slots_of t.object)) at ≡ Some (kind_of v) = ap (λ ks. slice_get ks at) (sym t.kinds) ∙ e in
    let same : map kind_of (slots_of (with_slot at v t.object)) ≡ map kind_of (slots_of t.object) =
    ap (map kind_of) (slot_values at v t.object.shape t.object.slots) ∙ set_kinds (slots_of t.object) at v here in
    kinds_seen (object_at (with_changed o (with_slot at v) h) p)
    ∙ ap (λ y. option_map_or (λ ks. ks) y []) (seen_changed (λ (y : Object). map kind_of (slots_of y)) (with_slot at v) h.objects t.object o.0 p.0 t.there same)
    ∙ sym (kinds_seen (object_at h p))

-- the kind of a value that is found in a slot
pub slot_kind : (h : HeapState) (o : ObjRef) (at : ℕ) (v : Value) → slot_at h o at ≡ Some v → slice_get (kinds_in h o) at ≡ Some (kind_of v)
slot_kind h o at v e = by (object_at h o) e
  where
    by : (y : Option Object) → option_and_then (λ (x : Object). slice_get (slots_of x) at) y ≡ Some v → slice_get (option_map_or (λ (x : Object). map kind_of (slots_of x)) y []) at ≡ Some (kind_of v)
    by None e = absurd (none-some v e)
    by (Some x) e = slice_get-map kind_of (slots_of x) at ∙ ap (option_map kind_of) e

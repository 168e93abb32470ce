-- Laws of the heap: objects keep their numbers and their kind, and the slots that were taken are those of the objects (JVMS 2.4, 2.5.3).
use Rattle.std.specs.Prelude.{◌≡◌, ◌≢◌, ℕ, ◌++◌, ◌∷◌, [], List, None, Some, min, option_map, slice_set}
use Rattle.std.specs.List.{sum_by}
use Rattle.jl_logic.specs.Counts.{last_count}
use Rattle.jl_prim.specs.declared.numbers.ObjRef.{ObjRef}
use Rattle.jl_heap.specs.declared.value.Value.{Value}
use Rattle.jl_heap.specs.declared.shape.Mirror.{Mirror}
use Rattle.jl_heap.specs.declared.shape.Shape.{Shape}
use Rattle.jl_heap.specs.declared.shape.Shape.TheVariants as shapes
use Rattle.jl_heap.specs.declared.shape.Object.{Object}
use Rattle.jl_heap.specs.Objects.{shape_slots, mirror_slots, new_object, slots_of, FitsShape}
use Rattle.jl_heap.specs.Heap.{HeapState, next_number, object_at, slot_at, with_object, with_changed, with_slot, with_mirror, with_units, with_item, with_text, with_listed, text_units, list_items, mirrored}

-- An object has its number for ever: others that are made, and changes of others, leave it as it is.
pub record ObjectsStay : Type 0 where
  pub unused : (h : HeapState) → object_at h (next_number h) ≡ None
  pub new : (shape : Shape) (h : HeapState) → object_at (with_object shape h) (next_number h) ≡ Some (new_object shape)
  pub stays : (shape : Shape) (h : HeapState) (o : ObjRef) (x : Object) → object_at h o ≡ Some x → object_at (with_object shape h) o ≡ Some x
  pub changed : (change : Object → Object) (h : HeapState) (o : ObjRef) (x : Object)
      → object_at h o ≡ Some x → object_at (with_changed o change h) o ≡ Some (change x)
  pub others : (change : Object → Object) (h : HeapState) (o p : ObjRef) (x : Object)
      → object_at h o ≡ Some x → p.0 ≢ o.0 → object_at (with_changed o change h) p ≡ object_at h p
  pub numbers : (change : Object → Object) (h : HeapState) (o : ObjRef) → next_number (with_changed o change h) ≡ next_number h
  pub grown_text : (more : List ℕ) (h : HeapState) (o p : ObjRef) → object_at (with_text o more h) p ≡ object_at (with_changed o (with_units more) h) p
  pub grown_list : (v : Value) (h : HeapState) (o p : ObjRef) → object_at (with_listed o v h) p ≡ object_at (with_changed o (with_item v) h) p
  pub slot_set : (at : ℕ) (v w : Value) (h : HeapState) (o : ObjRef) → slot_at h o at ≡ Some w → slot_at (with_changed o (with_slot at v) h) o at ≡ Some v
  pub slot_beside : (at other : ℕ) (v w : Value) (h : HeapState) (o : ObjRef)
      → slot_at h o at ≡ Some w → other ≢ at → slot_at (with_changed o (with_slot at v) h) o other ≡ slot_at h o other

-- Shapes of one kind and class: of instances the fields are the same, of arrays the elements and the length. What a text, a list or a mirror holds may differ.
abbrev pub AreAlike : Shape → Shape → Type 0
AreAlike (shapes.Object c fields) (shapes.Object d kinds) = (c ≡ d) × (fields ≡ kinds)
AreAlike (shapes.Array e len) (shapes.Array f count) = (e ≡ f) × (len ≡ count)
AreAlike (shapes.Text c units) (shapes.Text d more) = c ≡ d
AreAlike (shapes.List c items) (shapes.List d more) = c ≡ d
AreAlike (shapes.Mirror c what) (shapes.Mirror d other) = c ≡ d
AreAlike _ _ = ⊥

-- A change of an object changes what it says, and neither its kind nor its class.
pub record ShapesStay : Type 0 where
  pub slot_alike : (at : ℕ) (v : Value) (x : Object) → AreAlike (with_slot at v x).shape x.shape
  pub slot_shape : (at : ℕ) (v : Value) (x : Object) → list_items x ≡ None → (with_slot at v x).shape ≡ x.shape
  pub slot_values : (at : ℕ) (v : Value) (x : Object) → slots_of (with_slot at v x) ≡ slice_set (slots_of x) at v
  pub mirror_alike : (what : Mirror) (x : Object) → AreAlike (with_mirror what x).shape x.shape
  pub mirror_what : (what : Mirror) (x : Object) → mirrored (with_mirror what x) ≡ option_map (λ _. what) (mirrored x)
  pub text_alike : (more : List ℕ) (x : Object) → AreAlike (with_units more x).shape x.shape
  pub text_more : (more : List ℕ) (x : Object) → text_units (with_units more x) ≡ option_map (λ units. units ++ more) (text_units x)
  pub list_alike : (v : Value) (x : Object) → AreAlike (with_item v x).shape x.shape
  pub list_more : (v : Value) (x : Object) → list_items (with_item v x) ≡ option_map (λ items. items ++ v ∷ []) (list_items x)

-- Each object has the slots of its shape: an instance one of the kind of each field, and an array as many as its length says, of its elements' kind.
abbrev pub SlotsFit : HeapState → Type 0
SlotsFit h = (o : ObjRef) (x : Object) → object_at h o ≡ Some x → FitsShape x

-- the slots that the objects take
abbrev pub taken : List Object → ℕ
taken = sum_by (λ (x : Object). shape_slots x.shape)

-- the slots that were taken are those of the objects, up to the last value of the count
abbrev pub IsCounted : HeapState → Type 0
IsCounted h = h.used ≡ min (taken h.objects) last_count

-- The slots are counted, from the heap without objects on and by each change, but by one that has a mirror stand for what takes another number of slots.
pub record SlotsAreCounted : Type 0 where
  pub none : IsCounted (record { objects = []; used = 0 })
  pub new : (shape : Shape) (h : HeapState) → IsCounted h → IsCounted (with_object shape h)
  pub slot : (at : ℕ) (v : Value) (h : HeapState) (o : ObjRef) (x : Object)
      → object_at h o ≡ Some x → IsCounted h → IsCounted (with_changed o (with_slot at v) h)
  pub mirror : (what m : Mirror) (h : HeapState) (o : ObjRef) (x : Object) → object_at h o ≡ Some x → mirrored x ≡ Some m
      → mirror_slots what ≡ mirror_slots m → IsCounted h → IsCounted (with_changed o (with_mirror what) h)
  pub text : (more : List ℕ) (h : HeapState) (o : ObjRef) (x : Object) → object_at h o ≡ Some x → IsCounted h → IsCounted (with_text o more h)
  pub list : (v : Value) (items : List Value) (h : HeapState) (o : ObjRef) (x : Object) → object_at h o ≡ Some x → list_items x ≡ Some items
      → IsCounted h → IsCounted (with_listed o v h)

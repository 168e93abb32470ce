-- Slots that are set, and those beside them.
use Rattle.std.proofs.Common.{◌≡◌, ◌≢◌, ℕ, Some, slice_get, slice_set, sym, ◌∙◌, ap}
use Rattle.std.specs.Option.{option_and_then}
use Rattle.std.proofs.lemmas.Option.{option_and_then_some}
use Rattle.jl_prim.specs.declared.numbers.ObjRef.{ObjRef}
use Rattle.jl_heap.specs.declared.value.Value.{Value}
use Rattle.jl_heap.specs.declared.shape.Object.{Object}
use Rattle.jl_heap.specs.Objects.{slots_of}
use Rattle.jl_heap.specs.Heap.{HeapState, object_at, slot_at, with_changed, with_slot}
use Rattle.jl_heap.proofs.Alike.{slot_values}
use Rattle.jl_heap.proofs.Staying.{changed_one, set_at, set_other}

slot_in : (at : ℕ) (v : Value) (h : HeapState) (o : ObjRef) (x : Object) (place : ℕ) → object_at h o ≡ Some x
    → slot_at (with_changed o (with_slot at v) h) o place ≡ slice_get (slice_set (slots_of x) at v) place
slot_in at v h o x place is =
    let again : object_at (with_changed o (with_slot at v) h) o ≡ Some (with_slot at v x) = changed_one (with_slot at v) h.objects x o.0 is in
    ap (option_and_then (λ (y : Object). slice_get (slots_of y) place)) again ∙ ap (λ l. slice_get l place) (slot_values at v x.shape x.slots)

pub slot_set : (at : ℕ) (v w : Value) (h : HeapState) (o : ObjRef) → slot_at h o at ≡ Some w → slot_at (with_changed o (with_slot at v) h) o at ≡ Some v
slot_set at v w h o e = option_and_then_some (λ (x : Object). slice_get (slots_of x) at) (object_at h o) w e
    (λ x is here. slot_in at v h o x at is ∙ set_at (slots_of x) at w v here)

pub slot_beside : (at other : ℕ) (v w : Value) (h : HeapState) (o : ObjRef) → slot_at h o at ≡ Some w → other ≢ at → slot_at (with_changed o (with_slot at v) h) o other ≡ slot_at h o other
slot_beside at other v w h o e ne = option_and_then_some (λ (x : Object). slice_get (slots_of x) at) (object_at h o) w e
    (λ x is here. slot_in at v h o x other is ∙ (set_other (slots_of x) at other v ne ∙ sym (ap (option_and_then (λ (y : Object). slice_get (slots_of y) other)) is)))

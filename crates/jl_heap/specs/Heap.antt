-- The heap: the list of all objects made so far, and the slots that they took (JVMS 2.5.3).
use Rattle.std.specs.Prelude.{ℕ, zero, suc, ◌+◌, ◌-◌, List, [], ◌∷◌, ◌++◌, length, Option, None, Some, Bool, nat_lt, min, map, option_map, slice_get, slice_set}
use Rattle.std.specs.Option.{option_and_then, option_map_or}
use Rattle.jl_logic.specs.Counts.{last_count}
use Rattle.jl_prim.specs.declared.limits.TheConstants.{MOST_HEAP_SLOTS}
use Rattle.jl_prim.specs.declared.numbers.ObjRef.{ObjRef}
use Rattle.jl_heap.specs.declared.value.Kind.{Kind}
use Rattle.jl_heap.specs.declared.value.Value.{Value}
use Rattle.jl_heap.specs.declared.shape.Mirror.{Mirror}
use Rattle.jl_heap.specs.declared.shape.Shape.{Shape}
use Rattle.jl_heap.specs.declared.shape.Shape.TheVariants as shapes
use Rattle.jl_heap.specs.declared.shape.Object.{Object}
use Rattle.jl_heap.specs.Objects.{shape_slots, text_slots, new_object, slots_of}
use Rattle.jl_heap.specs.Values.{kind_of}

-- the objects in the order in which they were made, and the slots that were taken so far
pub record HeapState : Type 0 where
  pub objects : List Object
  pub used : ℕ

-- a count that rises by so many, up to its last value
abbrev pub raised_by : ℕ → ℕ → ℕ
raised_by count n = min (count + n) last_count

-- so many more slots pass the limit
abbrev pub is_full : HeapState → ℕ → Bool
is_full h n = nat_lt MOST_HEAP_SLOTS (h.used + n)

-- the next object has this number; the first has number 1
abbrev pub next_number : HeapState → ObjRef
next_number h = record { 0 = length h.objects + 1 }

-- a list in which what stands at a place is changed
abbrev pub changed_at : {X : Type 0} → ℕ → (X → X) → List X → List X
changed_at {X} i change xs = by (slice_get xs i) where
  by : Option X → List X
  by None = xs
  by (Some x) = slice_set xs i (change x)

-- what stands at the number of an object, counted from 1
abbrev pub at_number : {X : Type 0} → List X → ℕ → Option X
at_number xs zero = None
at_number xs (suc i) = slice_get xs i

-- the object with a number
abbrev pub object_at : HeapState → ObjRef → Option Object
object_at h o = at_number h.objects o.0

-- the shape of the object with a number
abbrev pub shape_at : HeapState → ObjRef → Option Shape
shape_at h o = option_map (λ (x : Object). x.shape) (object_at h o)

-- one object more, which takes its slots
abbrev pub with_object : Shape → HeapState → HeapState
with_object shape h = record { objects = h.objects ++ new_object shape ∷ []; used = raised_by h.used (shape_slots shape) }

-- an object is changed
abbrev pub with_changed : ObjRef → (Object → Object) → HeapState → HeapState
with_changed o change h = record h { objects = changed_at (o.0 - 1) change h.objects }

-- the kinds of the values in the slots of the object with a number, and none where there is no such object
abbrev pub kinds_in : HeapState → ObjRef → List Kind
kinds_in h o = option_map_or (λ (x : Object). map kind_of (slots_of x)) (object_at h o) []

-- a slot of an object
abbrev pub slot_at : HeapState → ObjRef → ℕ → Option Value
slot_at h o at = option_and_then (λ x. slice_get (slots_of x) at) (object_at h o)

-- the object with another value in one of its slots
abbrev pub with_slot : ℕ → Value → Object → Object
with_slot at v o = by o.shape where
  by : Shape → Object
  by (shapes.List class items) = record o { shape = shapes.List class (slice_set items at v) }
  by _ = record o { slots = slice_set o.slots at v }

-- a mirror that stands for something else
abbrev pub with_mirror : Mirror → Object → Object
with_mirror what o = record o { shape = by o.shape } where
  by : Shape → Shape
  by (shapes.Mirror class _) = shapes.Mirror class what
  by shape = shape

-- a text with more units
abbrev pub with_units : List ℕ → Object → Object
with_units more o = record o { shape = by o.shape } where
  by : Shape → Shape
  by (shapes.Text class units) = shapes.Text class (units ++ more)
  by shape = shape

-- a list with one item more
abbrev pub with_item : Value → Object → Object
with_item v o = record o { shape = by o.shape } where
  by : Shape → Shape
  by (shapes.List class items) = shapes.List class (items ++ v ∷ [])
  by shape = shape

-- the units of a shape that is a text's
abbrev pub units_of : Shape → Option (List ℕ)
units_of (shapes.Text class units) = Some units
units_of _ = None

-- the items of a shape that is a list's
abbrev pub items_of : Shape → Option (List Value)
items_of (shapes.List class items) = Some items
items_of _ = None

-- what a mirror's shape stands for
abbrev pub mirror_of : Shape → Option Mirror
mirror_of (shapes.Mirror class what) = Some what
mirror_of _ = None

-- the units of a text
abbrev pub text_units : Object → Option (List ℕ)
text_units o = units_of o.shape

-- the items of a list
abbrev pub list_items : Object → Option (List Value)
list_items o = items_of o.shape

-- what a mirror stands for
abbrev pub mirrored : Object → Option Mirror
mirrored o = mirror_of o.shape

-- the units of the text with a number
abbrev pub units_at : HeapState → ObjRef → Option (List ℕ)
units_at h o = option_and_then units_of (shape_at h o)

-- the items of the list with a number
abbrev pub items_at : HeapState → ObjRef → Option (List Value)
items_at h o = option_and_then items_of (shape_at h o)

-- what the mirror with a number stands for
abbrev pub mirror_at : HeapState → ObjRef → Option Mirror
mirror_at h o = option_and_then mirror_of (shape_at h o)

-- the slots that more units begin at the end of a text
abbrev pub begun_in : Object → List ℕ → ℕ
begun_in o more = by o.shape where
  by : Shape → ℕ
  by (shapes.Text class units) = text_slots (length units + length more) - text_slots (length units)
  by _ = 0

-- the slots that more units begin at the end of the text with a number
abbrev pub begun_by : HeapState → ObjRef → List ℕ → ℕ
begun_by h o more = by (object_at h o) where
  by : Option Object → ℕ
  by (Some x) = begun_in x more
  by None = 0

-- the heap where a text has more units, which take the slots that they begin
abbrev pub with_text : ObjRef → List ℕ → HeapState → HeapState
with_text o more h = record (with_changed o (with_units more) h) { used = raised_by h.used (begun_by h o more) }

-- the heap where a list has one item more, which takes a slot
abbrev pub with_listed : ObjRef → Value → HeapState → HeapState
with_listed o v h = record (with_changed o (with_item v) h) { used = raised_by h.used 1 }

-- Objects: what they hold, and how many slots of the heap they take (JVMS 2.4, 2.5.3).
use Rattle.std.specs.Prelude.{◌≡◌, ℕ, ◌+◌, ◌/◌, List, [], length, map, ◌||◌, ◌==◌, nat_lt, if◌then◌else◌, replicate}
use Rattle.jl_heap.specs.declared.value.Kind.{Kind}
use Rattle.jl_heap.specs.declared.value.Kind.TheVariants as kinds
use Rattle.jl_heap.specs.declared.value.Value.{Value}
use Rattle.jl_heap.specs.declared.shape.Base.{Base}
use Rattle.jl_heap.specs.declared.shape.Base.TheVariants as bases
use Rattle.jl_heap.specs.declared.shape.Element.{Element}
use Rattle.jl_heap.specs.declared.shape.Mirror.{Mirror}
use Rattle.jl_heap.specs.declared.shape.Mirror.TheVariants as mirrors
use Rattle.jl_heap.specs.declared.shape.Shape.{Shape}
use Rattle.jl_heap.specs.declared.shape.Shape.TheVariants as shapes
use Rattle.jl_heap.specs.declared.shape.Object.{Object}
use Rattle.jl_heap.specs.Values.{kind_of, first_value}

-- the kind of the values of a primitive type, by its letter: J is long, F and D hold nothing, all others are ints
abbrev pub letter_kind : ℕ → Kind
letter_kind letter = if letter == 74 then kinds.Long else if (letter == 70) || (letter == 68) then kinds.Top else kinds.Int

-- the kind of the values of a type that is no array
abbrev pub base_kind : Base → Kind
base_kind (bases.Prim letter) = letter_kind letter
base_kind (bases.Class c) = kinds.Ref

-- the kind of an array's elements
abbrev pub element_kind : Element → Kind
element_kind e = if nat_lt 0 e.dims then kinds.Ref else base_kind e.base

-- one slot for each four units begun
abbrev pub text_slots : ℕ → ℕ
text_slots n = (n + 3) / 4

-- a reflected member takes one besides its own
abbrev pub mirror_slots : Mirror → ℕ
mirror_slots (mirrors.Field f is_accessible) = 1
mirror_slots (mirrors.Method m is_accessible) = 1
mirror_slots _ = 0

-- one slot for the object, and one for each field, element, four units begun, or item
abbrev pub shape_slots : Shape → ℕ
shape_slots (shapes.Object class fields) = 1 + length fields
shape_slots (shapes.Array element len) = 1 + len
shape_slots (shapes.Text class units) = 1 + text_slots (length units)
shape_slots (shapes.List class items) = 1 + length items
shape_slots (shapes.Mirror class what) = 1 + mirror_slots what

-- the slots of fields or elements with which an object of a shape begins
abbrev pub first_slots : Shape → List Value
first_slots (shapes.Object class fields) = map first_value fields
first_slots (shapes.Array element len) = replicate len (first_value (element_kind element))
first_slots _ = []

-- an object that was just made
abbrev pub new_object : Shape → Object
new_object shape = record { shape = shape; slots = first_slots shape }

-- the slots of an object: those of a list are its items
abbrev pub slots_of : Object → List Value
slots_of o = by o.shape where
  by : Shape → List Value
  by (shapes.List class items) = items
  by _ = o.slots

-- the kinds of the slots that an object of a shape has: one for each field, element or item
abbrev pub slot_kinds : Shape → List Kind
slot_kinds (shapes.Object class fields) = fields
slot_kinds (shapes.Array element len) = replicate len (element_kind element)
slot_kinds (shapes.Text class units) = []
slot_kinds (shapes.List class items) = map kind_of items
slot_kinds (shapes.Mirror class what) = []

-- how many slots an object of a shape has: one for each field, element or item
abbrev pub slot_count : Shape → ℕ
slot_count (shapes.Object class fields) = length fields
slot_count (shapes.Array element len) = len
slot_count (shapes.Text class units) = 0
slot_count (shapes.List class items) = length items
slot_count (shapes.Mirror class what) = 0

-- an object has the slots of its shape
abbrev pub FitsShape : Object → Type 0
FitsShape o = map kind_of (slots_of o) ≡ slot_kinds o.shape

-- Worked rows of the definitions.
use Rattle.std.proofs.Common.{◌≡◌, ℕ, pos, negsuc, List, [], ◌∷◌, Bool, true, false, Some, None, replicate, refl}
use Rattle.jl_prim.specs.declared.limits.TheConstants.{MOST_HEAP_SLOTS, MOST_FRAMES, MOST_FRAME_SLOTS}
use Rattle.jl_prim.specs.declared.numbers.ClassId.{ClassId}
use Rattle.jl_prim.specs.declared.numbers.ObjRef.{ObjRef}
use Rattle.jl_heap.specs.declared.frame.FrameKind.TheVariants as frame_kinds
use Rattle.jl_heap.specs.declared.frame.NewFrame.{NewFrame}
use Rattle.jl_heap.specs.declared.kept.KeptKey.{KeptKey}
use Rattle.jl_heap.specs.declared.kept.KeptKey.TheVariants as keys
use Rattle.jl_heap.specs.declared.shape.Base.TheVariants as bases
use Rattle.jl_heap.specs.declared.shape.Element.{Element}
use Rattle.jl_heap.specs.declared.shape.Mirror.TheVariants as mirrors
use Rattle.jl_heap.specs.declared.shape.Object.{Object}
use Rattle.jl_heap.specs.declared.shape.Shape.{Shape}
use Rattle.jl_heap.specs.declared.shape.Shape.TheVariants as shapes
use Rattle.jl_heap.specs.declared.statics.StaticEntry.{StaticEntry}
use Rattle.jl_heap.specs.declared.statics.Usable.TheVariants as usables
use Rattle.jl_heap.specs.declared.value.Kind.TheVariants as kinds
use Rattle.jl_heap.specs.declared.value.Value.{Value}
use Rattle.jl_heap.specs.declared.value.Value.TheVariants as values
use Rattle.jl_heap.specs.Objects.{shape_slots, new_object, slot_kinds, slot_count, FitsShape}
use Rattle.jl_heap.specs.Heap.{HeapState, is_full, raised_by, begun_in, next_number, object_at, shape_at, kinds_in, slot_at, units_at, items_at, mirror_at, with_object, with_changed, with_slot, with_mirror, with_text, with_listed}
use Rattle.jl_heap.specs.Frames.{FrameState, FramesState, is_deep, new_frame, with_frame, with_call, without_frame, frame_at, top_of, value_at, room_of, locals_in, height_in, room_in, on_top, with_value, without_value, without_values, with_local}
use Rattle.jl_heap.specs.Statics.{entry_of, new_entry, with_class, with_changed_class, with_usable, with_static, is_usable, static_at}
use Rattle.jl_heap.specs.Kept.{KeptState, kept_under, with_kept}

-- ---- the limits

most_slots : MOST_HEAP_SLOTS ≡ 16777216
most_slots = refl

most_frames : MOST_FRAMES ≡ 2048
most_frames = refl

most_frame_slots : MOST_FRAME_SLOTS ≡ 4194304
most_frame_slots = refl

-- ---- shapes and their slots

abbrev class : ClassId
class = record { 0 = 7 }

abbrev other : ClassId
other = record { 0 = 8 }

abbrev ints : Element
ints = record { base = bases.Prim 73; dims = 0 }

abbrev zero_int : Value
zero_int = values.Int (pos 0)

abbrev five : Value
five = values.Int (pos 5)

abbrev nothing : Value
nothing = values.Ref None

abbrev text : ℕ → Shape
text n = shapes.Text class (replicate n 97)

no_field : shape_slots (shapes.Object class []) ≡ 1
no_field = refl

two_fields : shape_slots (shapes.Object class (kinds.Long ∷ kinds.Ref ∷ [])) ≡ 3
two_fields = refl

no_element : shape_slots (shapes.Array ints 0) ≡ 1
no_element = refl

three_elements : shape_slots (shapes.Array ints 3) ≡ 4
three_elements = refl

no_unit : shape_slots (text 0) ≡ 1
no_unit = refl

one_unit : shape_slots (text 1) ≡ 2
one_unit = refl

four_units : shape_slots (text 4) ≡ 2
four_units = refl

five_units : shape_slots (text 5) ≡ 3
five_units = refl

no_item : shape_slots (shapes.List class []) ≡ 1
no_item = refl

two_items : shape_slots (shapes.List class (nothing ∷ nothing ∷ [])) ≡ 3
two_items = refl

mirror_of_a_class : shape_slots (shapes.Mirror class (mirrors.Class ints)) ≡ 1
mirror_of_a_class = refl

mirror_of_a_field : shape_slots (shapes.Mirror class (mirrors.Field (record { 0 = 1 }) false)) ≡ 2
mirror_of_a_field = refl

mirror_of_a_method : shape_slots (shapes.Mirror class (mirrors.Method (record { 0 = 1 }) true)) ≡ 2
mirror_of_a_method = refl

an_iterator : shape_slots (shapes.Mirror class (mirrors.Iter (record { 0 = 1 }) 3)) ≡ 1
an_iterator = refl

-- ---- what slots begin with

fields_begin : (new_object (shapes.Object class (kinds.Int ∷ kinds.Long ∷ kinds.Ref ∷ kinds.Top ∷ []))).slots ≡ zero_int ∷ values.Long (pos 0) ∷ nothing ∷ values.Top ∷ []
fields_begin = refl

ints_begin : (new_object (shapes.Array ints 2)).slots ≡ zero_int ∷ zero_int ∷ []
ints_begin = refl

longs_begin : (new_object (shapes.Array (record { base = bases.Prim 74; dims = 0 }) 1)).slots ≡ values.Long (pos 0) ∷ []
longs_begin = refl

doubles_begin : (new_object (shapes.Array (record { base = bases.Prim 68; dims = 0 }) 1)).slots ≡ values.Top ∷ []
doubles_begin = refl

-- an array of arrays of ints
rows_begin : (new_object (shapes.Array (record { base = bases.Prim 73; dims = 1 }) 1)).slots ≡ nothing ∷ []
rows_begin = refl

-- ---- the slots of a shape

kinds_of_fields : slot_kinds (shapes.Object class (kinds.Long ∷ kinds.Ref ∷ [])) ≡ kinds.Long ∷ kinds.Ref ∷ []
kinds_of_fields = refl

kinds_of_elements : slot_kinds (shapes.Array ints 2) ≡ kinds.Int ∷ kinds.Int ∷ []
kinds_of_elements = refl

kinds_of_items : slot_kinds (shapes.List class (nothing ∷ five ∷ [])) ≡ kinds.Ref ∷ kinds.Int ∷ []
kinds_of_items = refl

no_slot_of_a_text : slot_kinds (text 5) ≡ []
no_slot_of_a_text = refl

no_slot_of_a_mirror : slot_kinds (shapes.Mirror class (mirrors.Field (record { 0 = 1 }) false)) ≡ []
no_slot_of_a_mirror = refl

count_of_elements : slot_count (shapes.Array ints 300) ≡ 300
count_of_elements = refl

count_of_items : slot_count (shapes.List class (nothing ∷ [])) ≡ 1
count_of_items = refl

count_of_a_text : slot_count (text 5) ≡ 0
count_of_a_text = refl

array_of_ints_fits : FitsShape (record { shape = shapes.Array ints 2; slots = zero_int ∷ five ∷ [] })
array_of_ints_fits = refl

-- ---- the heap

heap : List Object → ℕ → HeapState
heap objects used = record { objects = objects; used = used }

last_slot : is_full (heap [] 16777215) 1 ≡ false
unfolding heap
last_slot = refl

past_the_last_slot : is_full (heap [] 16777215) 2 ≡ true
unfolding heap
past_the_last_slot = refl

nothing_more : is_full (heap [] 16777216) 0 ≡ false
unfolding heap
nothing_more = refl

no_slot_left : is_full (heap [] 16777216) 1 ≡ true
unfolding heap
no_slot_left = refl

count_at_its_end : raised_by 18446744073709551615 5 ≡ 18446744073709551615
count_at_its_end = refl

within_four : begun_in (new_object (text 3)) (97 ∷ []) ≡ 0
within_four = refl

past_four : begun_in (new_object (text 4)) (97 ∷ []) ≡ 1
past_four = refl

up_to_eight : begun_in (new_object (text 5)) (97 ∷ 97 ∷ 97 ∷ []) ≡ 0
up_to_eight = refl

past_eight : begun_in (new_object (text 5)) (97 ∷ 97 ∷ 97 ∷ 97 ∷ []) ≡ 1
past_eight = refl

begun_by_none : begun_in (new_object (shapes.List class [])) (97 ∷ []) ≡ 0
begun_by_none = refl

-- an object with two fields, an array of two ints, a text of four units, an empty list, and a mirror
abbrev five_objects : HeapState
five_objects =
    with_object (shapes.Mirror class (mirrors.Iter (record { 0 = 4 }) 0))
    (with_object (shapes.List class []) (with_object (text 4) (with_object (shapes.Array ints 2) (with_object (shapes.Object class (kinds.Int ∷ kinds.Ref ∷ [])) (record { objects = []; used = 0 })))))

slots_of_five : five_objects.used ≡ 10
slots_of_five = refl

sixth : next_number five_objects ≡ record { 0 = 6 }
sixth = refl

no_object_zero : object_at five_objects (record { 0 = 0 }) ≡ None
no_object_zero = refl

no_object_six : object_at five_objects (record { 0 = 6 }) ≡ None
no_object_six = refl

shape_of_the_second : shape_at five_objects (record { 0 = 2 }) ≡ Some (shapes.Array ints 2)
shape_of_the_second = refl

kinds_in_the_first : kinds_in five_objects (record { 0 = 1 }) ≡ kinds.Int ∷ kinds.Ref ∷ []
kinds_in_the_first = refl

kinds_in_none : kinds_in five_objects (record { 0 = 6 }) ≡ []
kinds_in_none = refl

no_text : units_at five_objects (record { 0 = 2 }) ≡ None
no_text = refl

no_items_yet : items_at five_objects (record { 0 = 4 }) ≡ Some []
no_items_yet = refl

stands_for_an_iterator : mirror_at five_objects (record { 0 = 5 }) ≡ Some (mirrors.Iter (record { 0 = 4 }) 0)
stands_for_an_iterator = refl

field_set : slot_at (with_changed (record { 0 = 1 }) (with_slot 0 five) five_objects) (record { 0 = 1 }) 0 ≡ Some five
field_set = refl

field_beside : slot_at (with_changed (record { 0 = 1 }) (with_slot 0 five) five_objects) (record { 0 = 1 }) 1 ≡ Some nothing
field_beside = refl

object_beside : slot_at (with_changed (record { 0 = 1 }) (with_slot 0 five) five_objects) (record { 0 = 2 }) 0 ≡ Some zero_int
object_beside = refl

element_set : slot_at (with_changed (record { 0 = 2 }) (with_slot 1 five) five_objects) (record { 0 = 2 }) 1 ≡ Some five
element_set = refl

past_the_elements : slot_at five_objects (record { 0 = 2 }) 2 ≡ None
past_the_elements = refl

-- a list of two items, of which the second is changed
item_set : slot_at (with_changed (record { 0 = 4 }) (with_slot 1 five) (with_listed (record { 0 = 4 }) nothing (with_listed (record { 0 = 4 }) nothing five_objects))) (record { 0 = 4 }) 1 ≡ Some five
item_set = refl

two_slots_more : (with_listed (record { 0 = 4 }) nothing (with_listed (record { 0 = 4 }) nothing five_objects)).used ≡ 12
two_slots_more = refl

text_grown : units_at (with_text (record { 0 = 3 }) (98 ∷ []) five_objects) (record { 0 = 3 }) ≡ Some (97 ∷ 97 ∷ 97 ∷ 97 ∷ 98 ∷ [])
text_grown = refl

slot_begun : (with_text (record { 0 = 3 }) (98 ∷ []) five_objects).used ≡ 11
slot_begun = refl

mirror_moved : object_at (with_changed (record { 0 = 5 }) (with_mirror (mirrors.Iter (record { 0 = 4 }) 1)) five_objects) (record { 0 = 5 })
    ≡ Some (record { shape = shapes.Mirror class (mirrors.Iter (record { 0 = 4 }) 1); slots = [] })
mirror_moved = refl

-- ---- frames

abbrev small : NewFrame
small = record { kind = frame_kinds.Method (record { 0 = 1 }); max_stack = 2; max_locals = 1 }

abbrev other_kind : NewFrame
other_kind = record { kind = frame_kinds.Init class; max_stack = 0; max_locals = 0 }

-- the most slots that a frame can have: 131,070
abbrev large : NewFrame
large = record { kind = frame_kinds.Enter (record { 0 = 1 }); max_stack = 65535; max_locals = 65535 }

abbrev frames : List FrameState → FramesState
frames fs = record { task = 1; frames = fs }

abbrev two_frames : FramesState
two_frames = with_frame small (with_frame other_kind (record { task = 1; frames = [] }))

on_top_is_small : top_of two_frames ≡ Some (record { kind = frame_kinds.Method (record { 0 = 1 }); max_stack = 2; max_locals = 1; pc = 0; locals = values.Top ∷ []; stack = [] })
on_top_is_small = refl

below_is_the_other : frame_at two_frames 1 ≡ Some (new_frame other_kind)
below_is_the_other = refl

no_third : frame_at two_frames 2 ≡ None
no_third = refl

left_again : without_frame two_frames ≡ with_frame other_kind (record { task = 1; frames = [] })
left_again = refl

-- a long: its value, then the slot that holds nothing
abbrev with_long : FrameState
with_long = with_value values.Top (with_value (values.Long (negsuc 0)) (new_frame small))

top_of_a_long : value_at with_long 0 ≡ Some values.Top
top_of_a_long = refl

long_below : value_at with_long 1 ≡ Some (values.Long (negsuc 0))
long_below = refl

past_the_bottom : value_at with_long 2 ≡ None
past_the_bottom = refl

no_room : room_of with_long ≡ 0
no_room = refl

one_taken : room_of (without_value with_long) ≡ 1
one_taken = refl

one_local : locals_in two_frames ≡ 1
one_local = refl

empty_stack : height_in two_frames ≡ 0
empty_stack = refl

room_for_two : room_in two_frames ≡ 2
room_for_two = refl

room_without_a_frame : room_in (frames []) ≡ 0
unfolding frames
room_without_a_frame = refl

long_is_two_high : height_in (frames (with_long ∷ [])) ≡ 2
unfolding frames
long_is_two_high = refl

cleared : without_values with_long ≡ new_frame small
cleared = refl

changed_on_top : frame_at (on_top (with_local 0 five) two_frames) 1 ≡ Some (new_frame other_kind)
changed_on_top = refl

last_frame : is_deep (frames (replicate 2047 (new_frame other_kind))) other_kind ≡ false
unfolding frames
last_frame = refl

past_the_last_frame : is_deep (frames (replicate 2048 (new_frame other_kind))) other_kind ≡ true
unfolding frames
past_the_last_frame = refl

-- thirty-two large frames have 4,194,240 slots
last_frame_slot : is_deep (frames (replicate 32 (new_frame large))) (record { kind = frame_kinds.Init class; max_stack = 32; max_locals = 32 }) ≡ false
unfolding frames
last_frame_slot = refl

past_the_last_frame_slot : is_deep (frames (replicate 32 (new_frame large))) (record { kind = frame_kinds.Init class; max_stack = 33; max_locals = 32 }) ≡ true
unfolding frames
past_the_last_frame_slot = refl

-- ---- statics

abbrev one_class : List (ClassId × StaticEntry)
one_class = with_class class (kinds.Int ∷ kinds.Ref ∷ []) []

not_entered : is_usable (entry_of [] class) 1 ≡ false
not_entered = refl

usable_by_none : is_usable (entry_of one_class class) 1 ≡ false
usable_by_none = refl

usable_by_the_task : is_usable (entry_of (with_changed_class class (with_usable (usables.By 1)) one_class) class) 1 ≡ true
usable_by_the_task = refl

not_by_another : is_usable (entry_of (with_changed_class class (with_usable (usables.By 1)) one_class) class) 2 ≡ false
not_by_another = refl

usable_by_all : is_usable (entry_of (with_changed_class class (with_usable usables.All) one_class) class) 2 ≡ true
usable_by_all = refl

static_begins : static_at one_class class 1 ≡ Some nothing
static_begins = refl

static_set : static_at (with_changed_class class (with_static 0 five) one_class) class 0 ≡ Some five
static_set = refl

another_class : entry_of (with_class other [] (with_changed_class class (with_static 0 five) one_class)) other ≡ Some (new_entry [])
another_class = refl

-- ---- what is kept

kept : List (KeptKey × ObjRef) → KeptState
kept pairs = record { pairs = pairs; no_heap = record { 0 = 1 }; out = record { 0 = 2 } }

abbrev key_of_a_field : Bool → KeptKey
key_of_a_field is_open = keys.Mirror (mirrors.Field (record { 0 = 4 }) is_open)

found_again : kept_under (key_of_a_field true) (with_kept (key_of_a_field true) (record { 0 = 9 }) (kept [])).pairs ≡ Some (record { 0 = 9 })
unfolding kept
found_again = refl

in_another_state : kept_under (key_of_a_field false) (with_kept (key_of_a_field true) (record { 0 = 9 }) (kept [])).pairs ≡ None
unfolding kept
in_another_state = refl

a_method_with_the_number : kept_under (keys.Mirror (mirrors.Method (record { 0 = 4 }) true)) ((key_of_a_field true, record { 0 = 9 }) ∷ []) ≡ None
a_method_with_the_number = refl

a_box_of_another_class : kept_under (keys.Boxed other (pos 1)) ((keys.Boxed class (pos 1), record { 0 = 9 }) ∷ []) ≡ None
a_box_of_another_class = refl

a_box_of_another_value : kept_under (keys.Boxed class (negsuc 0)) ((keys.Boxed class (pos 1), record { 0 = 9 }) ∷ []) ≡ None
a_box_of_another_value = refl

a_longer_text : kept_under (keys.Text (97 ∷ 98 ∷ [])) ((keys.Text (97 ∷ []), record { 0 = 9 }) ∷ []) ≡ None
a_longer_text = refl

an_array_with_more_dimensions : kept_under (keys.Mirror (mirrors.Class (record { base = bases.Class class; dims = 1 }))) ((keys.Mirror (mirrors.Class (record { base = bases.Class class; dims = 2 })), record { 0 = 9 }) ∷ []) ≡ None
an_array_with_more_dimensions = refl

the_second_of_two : kept_under (keys.Boxed class (pos 2)) ((keys.Boxed class (pos 1), record { 0 = 9 }) ∷ (keys.Boxed class (pos 2), record { 0 = 10 }) ∷ []) ≡ Some (record { 0 = 10 })
the_second_of_two = refl

-- ---- calls

-- a caller with a reference, and on it a long as its two slots
abbrev calling : FrameState
calling = record { kind = frame_kinds.Method (record { 0 = 1 }); max_stack = 4; max_locals = 0; pc = 7; locals = []; stack = values.Top ∷ values.Long (negsuc 0) ∷ values.Ref None ∷ values.Int (pos 5) ∷ [] }

abbrev called_with : NewFrame
called_with = record { kind = frame_kinds.Method (record { 0 = 2 }); max_stack = 1; max_locals = 4 }

-- three slots move, the deepest first; one local is left, and what lay below stays
three_move : with_call called_with 3 (frames (calling ∷ [])) ≡ frames (record { kind = frame_kinds.Method (record { 0 = 2 }); max_stack = 1; max_locals = 4; pc = 0; locals = values.Ref None ∷ values.Long (negsuc 0) ∷ values.Top ∷ values.Top ∷ []; stack = [] }
    ∷ record { kind = frame_kinds.Method (record { 0 = 1 }); max_stack = 4; max_locals = 0; pc = 7; locals = []; stack = values.Int (pos 5) ∷ [] } ∷ [])
three_move = refl

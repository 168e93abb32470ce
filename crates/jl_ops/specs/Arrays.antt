-- The rows of arrays (JVMS 6.5): what they take, where they fail, and what they change.
use Rattle.std.specs.Prelude.{◌≡◌, ℕ, ℤ, pos, Option, None, Some, Result, Ok, Err, Bool, true, false, IsTrue, ◌&&◌, ◌||◌, ◌==◌, nat_lt, int_lt, int_le, unsigned_abs, if◌then◌else◌}
use Rattle.std.specs.Option.{unwrap_or}
use Rattle.std.specs.Int.{cast_signed, w32}
use Rattle.jl_reading.specs.Reading.{◌>>=◌}
use Rattle.jl_prim.specs.declared.numbers.ObjRef.{ObjRef}
use Rattle.jl_heap.specs.declared.value.Kind.{Kind}
use Rattle.jl_heap.specs.declared.value.Kind.TheVariants as kinds
use Rattle.jl_heap.specs.declared.value.Value.TheVariants as values
use Rattle.jl_heap.specs.declared.shape.Base.{Base}
use Rattle.jl_heap.specs.declared.shape.Base.TheVariants as bases
use Rattle.jl_heap.specs.declared.shape.Element.{Element}
use Rattle.jl_heap.specs.declared.shape.Shape.{Shape}
use Rattle.jl_heap.specs.declared.shape.Shape.TheVariants as shapes
use Rattle.jl_heap.specs.declared.store.Store.{Store}
use Rattle.jl_heap.specs.Frames.{FramesState}
use Rattle.jl_heap.specs.Heap.{HeapState, is_full, next_number, shape_at, slot_at, with_changed, with_object, with_slot}
use Rattle.jl_heap.specs.Objects.{shape_slots}
use Rattle.jl_ops.specs.declared.row.IntType.{IntType}
use Rattle.jl_ops.specs.declared.row.IntType.TheVariants as int_types
use Rattle.jl_ops.specs.declared.row.Elements.{Elements}
use Rattle.jl_ops.specs.declared.row.Elements.TheVariants as elements
use Rattle.jl_ops.specs.declared.row.ArrayRow.{ArrayRow}
use Rattle.jl_ops.specs.declared.row.ArrayRow.TheVariants as array_rows
use Rattle.jl_ops.specs.declared.stop.Stop.{Stop}
use Rattle.jl_ops.specs.declared.stop.Stop.TheVariants as stops
use Rattle.jl_ops.specs.declared.arrays.Array.{Array}
use Rattle.jl_ops.specs.declared.arrays.MakeEnd.{MakeEnd}
use Rattle.jl_ops.specs.declared.arrays.MakeEnd.TheVariants as make_ends
use Rattle.jl_ops.specs.declared.type_letters.TheConstants.{BOOLEAN, BYTE, CHAR, INT, LONG, SHORT}
use Rattle.jl_ops.specs.Arithmetic.{cut, low_bit}
use Rattle.jl_ops.specs.Operands.{int_under, long_under, ref_under, put, put_value, popped}

-- ---- what an array has

-- the letter of a type that is no array and no class
abbrev pub base_letter : Base → Option ℕ
base_letter (bases.Prim letter) = Some letter
base_letter (bases.Class c) = None

-- the letter of an array's elements, none where they are references
abbrev pub letter_of : Element → Option ℕ
letter_of e = if nat_lt 0 e.dims then None else base_letter e.base

-- Arrays of a type have its letter. Those of booleans are taken where those of bytes are.
abbrev pub is_letter_of : IntType → ℕ → Bool
is_letter_of int_types.Int letter = letter == INT
is_letter_of int_types.Byte letter = (letter == BYTE) || (letter == BOOLEAN)
is_letter_of int_types.Char letter = letter == CHAR
is_letter_of int_types.Short letter = letter == SHORT

-- elements with a letter, or references, are those that a row takes
abbrev pub are_taken : Elements → Option ℕ → Bool
are_taken (elements.Ints of) (Some letter) = is_letter_of of letter
are_taken elements.Longs (Some letter) = letter == LONG
are_taken elements.References None = true
are_taken wanted found = false

-- the kind of the values of such elements
abbrev pub kind_of_elements : Elements → Kind
kind_of_elements (elements.Ints of) = kinds.Int
kind_of_elements elements.Longs = kinds.Long
kind_of_elements elements.References = kinds.Ref

-- ---- where a row fails

-- an object of another class where an array is wanted
abbrev pub no_array : Stop
no_array = stops.Stuck kinds.Ref kinds.Ref

abbrev pub array_of : ObjRef → Option Shape → Result Array Stop
array_of o (Some (shapes.Array element count)) = Ok (record { object = o; element = element; count = count })
array_of o shape = Err no_array

-- the array of a reference
abbrev pub array_at : HeapState → Option ObjRef → Result Array Stop
array_at h None = Err stops.Null
array_at h (Some o) = array_of o (shape_at h o)

-- the array of a reference, which has to have such elements
abbrev pub array_with : Elements → HeapState → Option ObjRef → Result Array Stop
array_with wanted h o = array_at h o >>= λ a. if are_taken wanted (letter_of a.element) then Ok a else Err no_array

-- an index of an array
abbrev pub index_in : Array → ℤ → Result ℕ Stop
index_in a at = if int_le (pos 0) at && nat_lt (unsigned_abs at) a.count then Ok (unsigned_abs at) else Err (stops.OutOfBounds at a.count)

-- ---- what a row does

-- The array and the index are taken, and the element is put in their place.
unfoldable pub element_loaded : Elements → HeapState → FramesState → Result FramesState Stop
element_loaded wanted h f =
    int_under f 0 >>= λ at. ref_under f 1 >>= λ o. array_with wanted h o >>= λ a. index_in a at >>= λ i.
    Ok (put_value (unwrap_or (slot_at h a.object i) values.Top) (popped (popped f)))

-- the elements are booleans
abbrev pub are_booleans : Option ℕ → Bool
are_booleans None = false
are_booleans (Some letter) = letter == BOOLEAN

-- What an array keeps of an int: it is cut to the type, and to its low bit where elements are booleans.
abbrev pub kept_of : IntType → Element → ℤ → ℤ
kept_of of element n = if are_booleans (letter_of element) then low_bit n else cut of n

-- The array, the index and the int are taken, and the element is set.
unfoldable pub int_stored : IntType → Store → Result Store Stop
int_stored of s =
    int_under s.frames 0 >>= λ n. int_under s.frames 1 >>= λ at. ref_under s.frames 2 >>= λ o.
    array_with (elements.Ints of) s.heap o >>= λ a. index_in a at >>= λ i.
    Ok (record s {
      heap = with_changed a.object (with_slot i (values.Int (kept_of of a.element n))) s.heap;
      frames = popped (popped (popped s.frames));
    })

-- likewise with a long, which lies in two slots
unfoldable pub long_stored : Store → Result Store Stop
long_stored s =
    long_under s.frames 0 >>= λ n. int_under s.frames 2 >>= λ at. ref_under s.frames 3 >>= λ o.
    array_with elements.Longs s.heap o >>= λ a. index_in a at >>= λ i.
    Ok (record s {
      heap = with_changed a.object (with_slot i (values.Long n)) s.heap;
      frames = popped (popped (popped (popped s.frames)));
    })

-- the array is taken, and the number of its elements put in its place
unfoldable pub measured : HeapState → FramesState → Result FramesState Stop
measured h f = ref_under f 0 >>= λ o. array_at h o >>= λ a. Ok (put (values.Int (cast_signed w32 a.count)) (popped f))

-- an array of so many elements of a primitive type
abbrev pub array_shape : ℕ → ℕ → Shape
array_shape letter count = shapes.Array (record { base = bases.Prim letter; dims = 0 }) count

-- a new array in place of the number of its elements
abbrev pub with_array : Shape → Store → Store
with_array shape s = record s { heap = with_object shape s.heap; frames = put (values.Ref (Some (next_number s.heap))) (popped s.frames) }

-- The number of elements is taken. It is not negative, and the heap has room for them.
unfoldable pub made : ℕ → Store → Result Store Stop
made letter s =
    int_under s.frames 0 >>= λ n.
    if int_lt n (pos 0) then Err (stops.Negative n)
    else if is_full s.heap (shape_slots (array_shape letter (unsigned_abs n))) then Err stops.Full
    else Ok (with_array (array_shape letter (unsigned_abs n)) s)

-- what changes the top frame alone
abbrev pub in_frames : Store → Result FramesState Stop → Result Store Stop
in_frames s (Ok f) = Ok (record s { frames = f })
in_frames s (Err stop) = Err stop

-- what a row of arrays does
unfoldable pub array_row : ArrayRow → Store → Result Store Stop
array_row (array_rows.Load wanted) s = in_frames s (element_loaded wanted s.heap s.frames)
array_row (array_rows.StoreInt of) s = int_stored of s
array_row array_rows.StoreLong s = long_stored s
array_row array_rows.Length s = in_frames s (measured s.heap s.frames)

-- a row goes on
abbrev pub goes_on : Result Store Stop → Bool
goes_on (Ok s) = true
goes_on (Err stop) = false

-- How the code makes an array: as is said, or there is no memory for it, and the store is as before.
abbrev pub Makes : {U : Type 0} → Result Store Stop → Store → Result U MakeEnd → Store → Type 0
Makes said old (Ok u) new = said ≡ Ok new
Makes said old (Err (make_ends.Stop stop)) new = (said ≡ Err stop) × (new ≡ old)
Makes said old (Err make_ends.NoMemory) new = IsTrue (goes_on said) × (new ≡ old)

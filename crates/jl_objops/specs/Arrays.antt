-- Arrays of references (JVMS 6.5, aastore, anewarray, multianewarray).
use Rattle.std.specs.Prelude.{ℕ, ℤ, pos, List, Option, None, Some, Result, Ok, Err, int_lt, unsigned_abs, if◌then◌else◌}
use Rattle.jl_reading.specs.Reading.{◌>>=◌}
use Rattle.jl_prim.specs.declared.numbers.ObjRef.{ObjRef}
use Rattle.jl_prim.specs.declared.error_kind.ErrorKind.TheVariants as errors
use Rattle.jl_tree.specs.Files.{File}
use Rattle.jl_heap.specs.declared.value.Value.TheVariants as values
use Rattle.jl_heap.specs.declared.shape.Element.{Element}
use Rattle.jl_heap.specs.declared.shape.Shape.{Shape}
use Rattle.jl_heap.specs.declared.shape.Shape.TheVariants as shapes
use Rattle.jl_heap.specs.declared.store.Store.{Store}
use Rattle.jl_heap.specs.Heap.{HeapState, shape_at, with_changed, with_slot}
use Rattle.jl_ops.specs.declared.row.Elements.TheVariants as elements
use Rattle.jl_ops.specs.declared.stop.Stop.TheVariants as stops
use Rattle.jl_ops.specs.Arrays.{array_with, index_in}
use Rattle.jl_ops.specs.Operands.{int_under, ref_under, put, popped}
use Rattle.jl_ops.specs.Rows.{standing}
use Rattle.jl_loads.specs.declared.slot.Target.{Target}
use Rattle.jl_loads.specs.Worlds.{State}
use Rattle.jl_loads.specs.Outcomes as loads
use Rattle.jl_objops.specs.declared.caller.Caller.{Caller}
use Rattle.jl_objops.specs.declared.halt.Halt.{Halt}
use Rattle.jl_objops.specs.declared.halt.Halt.TheVariants as halts
use Rattle.jl_objops.specs.declared.types.Fit.TheVariants as fits
use Rattle.jl_objops.specs.Outcomes.{Outcome, stopped, of_thrown, no_member, refer, with_target, tested}
use Rattle.jl_objops.specs.Objects.{Made, allocated}
use Rattle.jl_objops.specs.Types.{loader_of, type_of_target, takes, type_of, type_text}

-- ---- aastore

-- an object of a shape is kept by an array of such elements, or the error names its class
abbrev pub kept_in : State → Element → Option Shape → Result Unit Halt
kept_in w e None = Err no_member
kept_in w e (Some x) =
    if takes fits.Cast w e (type_of x) then Ok tt
    else Err (of_thrown (loads.error errors.ArrayStoreException (type_text w (type_of x))))

-- null is kept by every array
abbrev pub may_keep : State → HeapState → Element → Option ObjRef → Result Unit Halt
may_keep w h e None = Ok tt
may_keep w h e (Some o) = kept_in w e (shape_at h o)

-- The array, the index and the reference are taken, and the element is set.
abbrev pub reference_stored : ℕ → State → Store → Result Store Halt
reference_stored next w s =
    stopped (ref_under s.frames 0) >>= λ v. stopped (int_under s.frames 1) >>= λ at. stopped (ref_under s.frames 2) >>= λ o.
    stopped (array_with elements.References s.heap o) >>= λ a. stopped (index_in a at) >>= λ i. may_keep w s.heap a.element v >>= λ _.
    Ok (standing next (record s {
      heap = with_changed a.object (with_slot i (values.Ref v)) s.heap;
      frames = popped (popped (popped s.frames));
    }))

-- ---- anewarray

-- a new array of so many elements of a type
abbrev pub array_new : Store → ℤ → Option Element → Result Made Halt
array_new s n None = Err no_member
array_new s n (Some e) = if int_lt n (pos 0) then Err (halts.Stop (stops.Negative n)) else allocated (shapes.Array e (unsigned_abs n)) s

-- the count is taken, and the array put in its place
abbrev pub replaced : Made → Store
replaced (o, s) = record s { frames = put (values.Ref (Some o)) (popped s.frames) }

-- The count is not negative.
abbrev pub array_done : ℕ → Store → Caller → ℤ → State → Target → Result Store Halt
array_done next s caller n w t = array_new s n (type_of_target w (loader_of w caller.class) t) >>= λ made. Ok (standing next (replaced made))

abbrev pub array_taken : ℕ → Store → Caller → State → Target → Result Store Halt
array_taken next s caller w t = stopped (int_under s.frames 0) >>= λ n. array_done next s caller n w t

abbrev pub array_row : List File → ℕ → State → Store → Caller → ℕ → ℕ → Outcome
array_row files at w s caller i next =
    tested w (int_under s.frames 0) (λ n. with_target (refer files at w caller.class i) (array_taken next s caller))

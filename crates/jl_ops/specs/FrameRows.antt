-- The rows that change the top frame alone (JVMS 6.5): what they take, and what they put in its place.
use Rattle.std.specs.Prelude.{ℤ, Option, None, Some, Result, Ok, Err}
use Rattle.std.specs.Int.{w32, w64, int_wrapping_neg}
use Rattle.jl_reading.specs.Reading.{◌>>=◌}
use Rattle.jl_prim.specs.declared.numbers.ObjRef.{ObjRef}
use Rattle.jl_heap.specs.declared.value.Value.{Value}
use Rattle.jl_heap.specs.declared.value.Value.TheVariants as values
use Rattle.jl_heap.specs.Frames.{FramesState}
use Rattle.jl_ops.specs.declared.row.IntOp.{IntOp}
use Rattle.jl_ops.specs.declared.row.LongOp.{LongOp}
use Rattle.jl_ops.specs.declared.row.Shift.{Shift}
use Rattle.jl_ops.specs.declared.row.FrameRow.{FrameRow}
use Rattle.jl_ops.specs.declared.row.FrameRow.TheVariants as frame_rows
use Rattle.jl_ops.specs.declared.stop.Stop.{Stop}
use Rattle.jl_ops.specs.declared.stop.Stop.TheVariants as stops
use Rattle.jl_ops.specs.Arithmetic.{int_result, long_result, shifted_long, low_int, cut, compared}
use Rattle.jl_ops.specs.Locals.{loaded, stored, increased}
use Rattle.jl_ops.specs.Operands.{int_under, long_under, ref_under, value_slots, in_room, put, put_value, popped}
use Rattle.jl_ops.specs.Stacks.{rearranged}

-- a constant is pushed
unfoldable pub pushed : Value → FramesState → Result FramesState Stop
pushed v s = in_room (value_slots v) s (put_value v s)

-- what was computed, or why nothing was
abbrev pub or_by_zero : Option ℤ → Result ℤ Stop
or_by_zero None = Err stops.ZeroDivisor
or_by_zero (Some n) = Ok n

-- Of two operands the second lies on top.
unfoldable pub ints_computed : IntOp → FramesState → Result FramesState Stop
ints_computed op s =
    int_under s 0 >>= λ b. int_under s 1 >>= λ a. or_by_zero (int_result op a b) >>= λ n.
    Ok (put (values.Int n) (popped (popped s)))

unfoldable pub longs_computed : LongOp → FramesState → Result FramesState Stop
longs_computed op s =
    long_under s 0 >>= λ b. long_under s 2 >>= λ a. or_by_zero (long_result op a b) >>= λ n.
    Ok (put_value (values.Long n) (popped (popped (popped (popped s)))))

-- the count lies on top of the long
unfoldable pub long_shifted : Shift → FramesState → Result FramesState Stop
long_shifted shift s =
    int_under s 0 >>= λ b. long_under s 1 >>= λ a.
    Ok (put_value (values.Long (shifted_long shift a b)) (popped (popped (popped s))))

-- an int is replaced by another
unfoldable pub int_changed : (ℤ → ℤ) → FramesState → Result FramesState Stop
int_changed change s = int_under s 0 >>= λ n. Ok (put (values.Int (change n)) (popped s))

unfoldable pub long_negated : FramesState → Result FramesState Stop
long_negated s = long_under s 0 >>= λ n. Ok (put_value (values.Long (int_wrapping_neg w64 n)) (popped (popped s)))

-- a long takes one slot more
unfoldable pub widened : FramesState → Result FramesState Stop
widened s = int_under s 0 >>= λ n. in_room 1 s (put_value (values.Long n) (popped s))

unfoldable pub narrowed : FramesState → Result FramesState Stop
narrowed s = long_under s 0 >>= λ n. Ok (put (values.Int (low_int n)) (popped (popped s)))

unfoldable pub longs_compared : FramesState → Result FramesState Stop
longs_compared s =
    long_under s 0 >>= λ b. long_under s 2 >>= λ a.
    Ok (put (values.Int (compared a b)) (popped (popped (popped (popped s)))))

abbrev pub unless_null : {X : Type 0} → Option ObjRef → X → Result X Stop
unless_null None x = Err stops.Null
unless_null (Some o) x = Ok x

-- With one task there is nobody to wait for (JVMS 6.5, monitorenter): the object has to be there, and is taken.
unfoldable pub monitored : FramesState → Result FramesState Stop
monitored s = ref_under s 0 >>= λ o. unless_null o (popped s)

-- what a row does
unfoldable pub frame_row : FrameRow → FramesState → Result FramesState Stop
frame_row frame_rows.Nothing s = Ok s
frame_row (frame_rows.Constant v) s = pushed v s
frame_row (frame_rows.Load kind local) s = loaded kind local s
frame_row (frame_rows.Store kind local) s = stored kind local s
frame_row (frame_rows.Increase local more) s = increased local more s
frame_row (frame_rows.Stack op) s = rearranged op s
frame_row (frame_rows.Ints op) s = ints_computed op s
frame_row (frame_rows.Longs op) s = longs_computed op s
frame_row (frame_rows.ShiftLong shift) s = long_shifted shift s
frame_row frame_rows.NegateInt s = int_changed (λ n. int_wrapping_neg w32 n) s
frame_row frame_rows.NegateLong s = long_negated s
frame_row frame_rows.IntToLong s = widened s
frame_row frame_rows.LongToInt s = narrowed s
frame_row (frame_rows.Cut to) s = int_changed (cut to) s
frame_row frame_rows.CompareLongs s = longs_compared s
frame_row frame_rows.Monitor s = monitored s

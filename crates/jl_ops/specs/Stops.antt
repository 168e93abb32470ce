-- How a row ends that does not go on (JVMS 6.5, the run-time exceptions of each instruction).
use Rattle.std.specs.Prelude.{◌≡◌, ◌++◌, None, Some, Bool, true, false, IsTrue, codes}
use Rattle.std.specs.Fmt.{decimal, signed_decimal}
use Rattle.jl_prim.specs.declared.error_kind.ErrorKind.TheVariants as errors
use Rattle.jl_heap.specs.declared.ends.RowEnd.{RowEnd}
use Rattle.jl_heap.specs.declared.ends.RowEnd.TheVariants as ends
use Rattle.jl_ops.specs.declared.stop.Stop.{Stop}
use Rattle.jl_ops.specs.declared.stop.Stop.TheVariants as stops

-- the end, with the message of what is thrown
abbrev pub end_of : Stop → RowEnd
end_of (stops.Stuck kind found) = ends.Stuck kind found
end_of stops.Null = ends.Throws errors.NullPointerException None
end_of stops.ZeroDivisor = ends.Throws errors.ArithmeticException (Some (codes "/ by zero"))
end_of (stops.OutOfBounds at count) =
    ends.Throws errors.ArrayIndexOutOfBoundsException (Some (codes "Index " ++ signed_decimal at ++ codes " out of bounds for length " ++ decimal count))
end_of (stops.Negative count) = ends.Throws errors.NegativeArraySizeException (Some (signed_decimal count))
end_of stops.Full = ends.Throws errors.OutOfMemoryError (Some (codes "heap"))
end_of (stops.Raised o) = ends.Raises o

-- an end has a message, which takes memory
abbrev pub has_message : RowEnd → Bool
has_message (ends.Throws kind (Some message)) = true
has_message end = false

-- The code ends so, or has no memory for the message.
abbrev pub IsEnd : RowEnd → RowEnd → Type 0
IsEnd said ends.NoMemory = IsTrue (has_message said)
IsEnd said end = said ≡ end

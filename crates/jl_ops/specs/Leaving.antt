-- How a method is left: by a return, or by an object that is thrown (JVMS 6.5).
use Rattle.std.specs.Prelude.{ℕ, Option, None, Some, Result, Ok, Err, nat_lt, option_map, if◌then◌else◌}
use Rattle.jl_reading.specs.Reading.{◌>>=◌}
use Rattle.jl_prim.specs.declared.numbers.ObjRef.{ObjRef}
use Rattle.jl_heap.specs.declared.value.Kind.{Kind}
use Rattle.jl_heap.specs.declared.value.Value.{Value}
use Rattle.jl_ops.specs.declared.stop.Stop.{Stop}
use Rattle.jl_ops.specs.declared.stop.Stop.TheVariants as stops
use Rattle.jl_heap.specs.Frames.{FramesState, frame_at, room_of, without_frame}
use Rattle.jl_ops.specs.Operands.{value_under, ref_under, value_slots, wanted, no_room, put_value}

-- The frame is dropped, and the value put on the stack of the one below, if there is one. That has to have room for it.
abbrev pub handed : Value → Option ℕ → FramesState → Result FramesState Stop
handed v None s = Ok (without_frame s)
handed v (Some room) s = if nat_lt room (value_slots v) then Err no_room else Ok (put_value v (without_frame s))

-- a return, with a value of a kind or without one
unfoldable pub returned : Option Kind → FramesState → Result FramesState Stop
returned None s = Ok (without_frame s)
returned (Some kind) s = wanted kind (value_under s 0) >>= λ v. handed v (option_map room_of (frame_at s 1)) s

-- what is thrown by athrow, or null in its place
abbrev pub thrown : Option ObjRef → Stop
thrown None = stops.Null
thrown (Some o) = stops.Raised o

-- athrow does nothing else
unfoldable pub raised : FramesState → Result FramesState Stop
raised s = ref_under s 0 >>= λ o. Err (thrown o)

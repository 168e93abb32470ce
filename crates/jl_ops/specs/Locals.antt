-- Loads, stores and iinc (JVMS 6.5).
use Rattle.std.specs.Prelude.{ℕ, ◌+◌, ℤ, Result, Ok, Err, Bool, nat_lt, if◌then◌else◌}
use Rattle.std.specs.Int.{w32, int_wrapping_add}
use Rattle.jl_reading.specs.Reading.{◌>>=◌}
use Rattle.jl_heap.specs.declared.value.Kind.{Kind}
use Rattle.jl_heap.specs.declared.value.Kind.TheVariants as kinds
use Rattle.jl_heap.specs.declared.value.Value.{Value}
use Rattle.jl_heap.specs.declared.value.Value.TheVariants as values
use Rattle.jl_ops.specs.declared.stop.Stop.{Stop}
use Rattle.jl_heap.specs.Frames.{FramesState, on_top, with_local, locals_in}
use Rattle.jl_ops.specs.Operands.{kind_slots, value_in_local, value_under, wanted, int_of, no_room, in_room, put_value, without_top}

-- a value of a kind in a local goes past the frame's locals
abbrev pub is_past : Kind → ℕ → FramesState → Bool
is_past kind local s = nat_lt (locals_in s) (local + kind_slots kind)

-- a value is set in its local, a long in two
abbrev pub set_value : ℕ → Value → FramesState → FramesState
set_value local (values.Long n) s = on_top (with_local (local + 1) values.Top) (on_top (with_local local (values.Long n)) s)
set_value local v s = on_top (with_local local v) s

-- The local is there, and has a value of the kind. Then there is room for it on the stack, on which it is put.
unfoldable pub loaded : Kind → ℕ → FramesState → Result FramesState Stop
loaded kind local s =
    if is_past kind local s then Err no_room
    else (wanted kind (value_in_local s local) >>= λ v. in_room (kind_slots kind) s (put_value v s))

-- The stack has a value of the kind on top, and the local is there, in which it is set.
unfoldable pub stored : Kind → ℕ → FramesState → Result FramesState Stop
stored kind local s =
    wanted kind (value_under s 0) >>= λ v.
    if is_past kind local s then Err no_room else Ok (set_value local v (without_top v s))

-- The local is there, and an int, to which the number is added.
unfoldable pub increased : ℕ → ℤ → FramesState → Result FramesState Stop
increased local more s =
    if is_past kinds.Int local s then Err no_room
    else (int_of (value_in_local s local) >>= λ n. Ok (set_value local (values.Int (int_wrapping_add w32 n more)) s))

-- The rows that take, copy or swap slots of the stack (JVMS 6.5, pop to swap). No group of slots may cut a long.
use Rattle.std.specs.Prelude.{ℕ, ◌+◌, Option, Some, Result, Ok, Err}
use Rattle.jl_reading.specs.Reading.{◌>>=◌}
use Rattle.jl_heap.specs.declared.value.Value.{Value}
use Rattle.jl_heap.specs.declared.value.Value.TheVariants as values
use Rattle.jl_ops.specs.declared.stop.Stop.{Stop}
use Rattle.jl_heap.specs.Frames.{FramesState}
use Rattle.jl_ops.specs.declared.row.StackOp.{StackOp}
use Rattle.jl_ops.specs.declared.row.StackOp.TheVariants as stack_ops
use Rattle.jl_ops.specs.Operands.{slot_under, no_slot, in_room, put, popped}

-- a slot that is there and holds a value by itself
abbrev pub whole_slot : Option Value → Result Value Stop
whole_slot (Some (values.Int n)) = Ok (values.Int n)
whole_slot (Some (values.Ref o)) = Ok (values.Ref o)
whole_slot slot = Err no_slot

-- two slots, the upper one first, that hold a long or a value each
abbrev pub whole_slots : Option Value → Option Value → Result (Value × Value) Stop
whole_slots (Some values.Top) (Some (values.Long n)) = Ok (values.Top, values.Long n)
whole_slots upper lower = whole_slot upper >>= λ u. whole_slot lower >>= λ l. Ok (u, l)

-- the slot so many below the top of the stack
abbrev pub one_under : FramesState → ℕ → Result Value Stop
one_under s down = whole_slot (slot_under s down)

-- the two slots from the one so many below the top on
abbrev pub two_under : FramesState → ℕ → Result (Value × Value) Stop
two_under s down = whole_slots (slot_under s down) (slot_under s (down + 1))

-- The slots are named from the top down: a is on top.
unfoldable pub pop : FramesState → Result FramesState Stop
pop s = one_under s 0 >>= λ a. Ok (popped s)

unfoldable pub pop2 : FramesState → Result FramesState Stop
pop2 s = two_under s 0 >>= λ top. Ok (popped (popped s))

unfoldable pub dup : FramesState → Result FramesState Stop
dup s = one_under s 0 >>= λ a. in_room 1 s (put a s)

unfoldable pub dup_x1 : FramesState → Result FramesState Stop
dup_x1 s = one_under s 0 >>= λ a. one_under s 1 >>= λ b. in_room 1 s (put a (put b (put a (popped (popped s)))))

unfoldable pub dup_x2 : FramesState → Result FramesState Stop
dup_x2 s = one_under s 0 >>= λ a. two_under s 1 >>= λ under. in_room 1 s (put a (put under.0 (put under.1 (put a (popped (popped (popped s)))))))

unfoldable pub dup2 : FramesState → Result FramesState Stop
dup2 s = two_under s 0 >>= λ top. in_room 2 s (put top.0 (put top.1 s))

unfoldable pub dup2_x1 : FramesState → Result FramesState Stop
dup2_x1 s =
    two_under s 0 >>= λ top. one_under s 2 >>= λ c.
    in_room 2 s (put top.0 (put top.1 (put c (put top.0 (put top.1 (popped (popped (popped s))))))))

unfoldable pub dup2_x2 : FramesState → Result FramesState Stop
dup2_x2 s =
    two_under s 0 >>= λ top. two_under s 2 >>= λ under.
    in_room 2 s (put top.0 (put top.1 (put under.0 (put under.1 (put top.0 (put top.1 (popped (popped (popped (popped s))))))))))

unfoldable pub swap : FramesState → Result FramesState Stop
swap s = one_under s 0 >>= λ a. one_under s 1 >>= λ b. Ok (put b (put a (popped (popped s))))

-- what a row makes of the stack
unfoldable pub rearranged : StackOp → FramesState → Result FramesState Stop
rearranged stack_ops.Pop s = pop s
rearranged stack_ops.Pop2 s = pop2 s
rearranged stack_ops.Dup s = dup s
rearranged stack_ops.DupX1 s = dup_x1 s
rearranged stack_ops.DupX2 s = dup_x2 s
rearranged stack_ops.Dup2 s = dup2 s
rearranged stack_ops.Dup2X1 s = dup2_x1 s
rearranged stack_ops.Dup2X2 s = dup2_x2 s
rearranged stack_ops.Swap s = swap s

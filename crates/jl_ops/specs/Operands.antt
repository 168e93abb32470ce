-- What a row takes of the top frame and gives to it, value by value: a long is two slots (JVMS 2.6.1, 2.6.2).
use Rattle.std.specs.Prelude.{◌≡◌, ℕ, ◌+◌, ◌≤◌, ⊤, ℤ, Option, None, Some, Result, Ok, Err, nat_lt, slice_get, if◌then◌else◌}
use Rattle.std.specs.Option.{option_and_then}
use Rattle.jl_prim.specs.declared.numbers.ObjRef.{ObjRef}
use Rattle.jl_heap.specs.declared.value.Kind.{Kind}
use Rattle.jl_heap.specs.declared.value.Kind.TheVariants as kinds
use Rattle.jl_heap.specs.declared.value.Value.{Value}
use Rattle.jl_heap.specs.declared.value.Value.TheVariants as values
use Rattle.jl_ops.specs.declared.stop.Stop.{Stop}
use Rattle.jl_ops.specs.declared.stop.Stop.TheVariants as stops
use Rattle.jl_heap.specs.Values.{kind_of}
use Rattle.jl_heap.specs.Frames.{FrameState, FramesState, top_of, value_at, on_top, with_pc, with_value, without_value, room_in, locals_in}

-- ---- what is there

-- the slot so many below the top of the top frame's stack
abbrev pub slot_under : FramesState → ℕ → Option Value
slot_under s down = option_and_then (λ (f : FrameState). value_at f down) (top_of s)

-- the slot of the top frame's local with a number, which is below their count
abbrev pub slot_in_local : FramesState → ℕ → Option Value
slot_in_local s local = if nat_lt local (locals_in s) then option_and_then (λ (f : FrameState). slice_get f.locals local) (top_of s) else None

-- A long on a stack has nothing in its upper slot. What is missing, or cuts a long, is no value.
abbrev pub stacked_value : Option Value → Option Value → Value
stacked_value (Some values.Top) (Some (values.Long n)) = values.Long n
stacked_value (Some (values.Int n)) lower = values.Int n
stacked_value (Some (values.Ref o)) lower = values.Ref o
stacked_value upper lower = values.Top

-- A long in locals has nothing in the local behind its own.
abbrev pub stored_value : Option Value → Option Value → Value
stored_value (Some (values.Long n)) (Some values.Top) = values.Long n
stored_value (Some (values.Int n)) next = values.Int n
stored_value (Some (values.Ref o)) next = values.Ref o
stored_value slot next = values.Top

-- the value so many slots below the top of the stack
abbrev pub value_under : FramesState → ℕ → Value
value_under s down = stacked_value (slot_under s down) (slot_under s (down + 1))

-- the value in a local
abbrev pub value_in_local : FramesState → ℕ → Value
value_in_local s local = stored_value (slot_in_local s local) (slot_in_local s (local + 1))

-- the slots that a value of a kind takes
abbrev pub kind_slots : Kind → ℕ
kind_slots kinds.Long = 2
kind_slots _ = 1

-- the slots that a value takes
abbrev pub value_slots : Value → ℕ
value_slots (values.Long n) = 2
value_slots _ = 1

-- a value that was found so many slots below the top of a stack of a height
abbrev pub IsDeep : Value → ℕ → ℕ → Type 0
IsDeep values.Top down height = ⊤
IsDeep (values.Int n) down height = down + 1 ≤ height
IsDeep (values.Ref o) down height = down + 1 ≤ height
IsDeep (values.Long n) down height = down + 2 ≤ height

-- ---- what is wanted

-- a value of the kind that is wanted, or the kind that is found in its place
abbrev pub wanted : Kind → Value → Result Value Stop
wanted kinds.Int (values.Int n) = Ok (values.Int n)
wanted kinds.Long (values.Long n) = Ok (values.Long n)
wanted kinds.Ref (values.Ref o) = Ok (values.Ref o)
wanted kind v = Err (stops.Stuck kind (kind_of v))

abbrev pub int_of : Value → Result ℤ Stop
int_of (values.Int n) = Ok n
int_of v = Err (stops.Stuck kinds.Int (kind_of v))

abbrev pub long_of : Value → Result ℤ Stop
long_of (values.Long n) = Ok n
long_of v = Err (stops.Stuck kinds.Long (kind_of v))

abbrev pub ref_of : Value → Result (Option ObjRef) Stop
ref_of (values.Ref o) = Ok o
ref_of v = Err (stops.Stuck kinds.Ref (kind_of v))

-- the int, the long, the reference so many slots below the top of the stack
abbrev pub int_under : FramesState → ℕ → Result ℤ Stop
int_under s down = int_of (value_under s down)

abbrev pub long_under : FramesState → ℕ → Result ℤ Stop
long_under s down = long_of (value_under s down)

abbrev pub ref_under : FramesState → ℕ → Result (Option ObjRef) Stop
ref_under s down = ref_of (value_under s down)

-- how a row stops that names a local which the frame does not have, or for whose result the stack has no room
abbrev pub no_room : Stop
no_room = stops.Stuck kinds.Top kinds.Top

-- how a row stops that takes slots whatever they hold, where one is missing or cuts a long
abbrev pub no_slot : Stop
no_slot = stops.Stuck kinds.Top kinds.Top

-- what is done where the stack has room for so many slots more
abbrev pub in_room : {X : Type 0} → ℕ → FramesState → X → Result X Stop
in_room n s done = if nat_lt (room_in s) n then Err no_room else Ok done

-- ---- what changes

-- a slot is put on the stack
abbrev pub put : Value → FramesState → FramesState
put v s = on_top (with_value v) s

-- the slot on top is taken
abbrev pub popped : FramesState → FramesState
popped s = on_top without_value s

-- a value is put on the stack, a long as its two slots
abbrev pub put_value : Value → FramesState → FramesState
put_value (values.Long n) s = put values.Top (put (values.Long n) s)
put_value v s = put v s

-- the value on top is taken, a long as its two slots
abbrev pub without_top : Value → FramesState → FramesState
without_top (values.Long n) s = popped (popped s)
without_top v s = popped s

-- the frame stands at a place
abbrev pub at_place : ℕ → FramesState → FramesState
at_place place s = on_top (with_pc place) s

-- ---- how the code answers

-- What a row did: the state is what the row says, or the row stopped as it says and the state is as before.
abbrev pub Does : {S U : Type 0} → Result S Stop → S → Result U Stop → S → Type 0
Does said old (Ok u) new = said ≡ Ok new
Does said old (Err stop) new = (said ≡ Err stop) × (new ≡ old)

-- Frames of calls: their locals and their operand stacks, slot by slot (JVMS 2.6).
use Rattle.std.specs.Prelude.{◌≡◌, ℕ, ◌+◌, ◌-◌, ◌≤◌, List, [], ◌∷◌, ◌++◌, length, take, drop, reverse, Option, IsSome, Bool, ◌||◌, nat_lt, slice_get, slice_set, map, replicate}
use Rattle.std.specs.List.{sum}
use Rattle.std.specs.Option.{option_map_or}
use Rattle.jl_prim.specs.declared.limits.TheConstants.{MOST_FRAMES, MOST_FRAME_SLOTS}
use Rattle.jl_heap.specs.declared.value.Value.{Value}
use Rattle.jl_heap.specs.declared.value.Value.TheVariants as values
use Rattle.jl_heap.specs.declared.frame.FrameKind.{FrameKind}
use Rattle.jl_heap.specs.declared.frame.NewFrame.{NewFrame}

-- A frame: what it is of, how many slots its stack and its locals have at the most, the place in the code, the locals, and the stack from the top down.
pub record FrameState : Type 0 where
  pub kind : FrameKind
  pub max_stack : ℕ
  pub max_locals : ℕ
  pub pc : ℕ
  pub locals : List Value
  pub stack : List Value

-- The frames of a task: its number, and its frames from the top down.
pub record FramesState : Type 0 where
  pub task : ℕ
  pub frames : List FrameState

-- the slots that a frame may use
abbrev pub frame_slots : FrameState → ℕ
frame_slots f = f.max_stack + f.max_locals

-- the slots that all frames may use
abbrev pub all_slots : List FrameState → ℕ
all_slots frames = sum (map frame_slots frames)

-- a frame that was just made: at place 0, with locals that hold nothing and an empty stack
abbrev pub new_frame : NewFrame → FrameState
new_frame f = record { kind = f.kind; max_stack = f.max_stack; max_locals = f.max_locals; pc = 0; locals = replicate f.max_locals values.Top; stack = [] }

-- one frame more, or its slots, pass the limit
abbrev pub is_deep : FramesState → NewFrame → Bool
is_deep s f = nat_lt MOST_FRAMES (length s.frames + 1) || nat_lt MOST_FRAME_SLOTS (all_slots s.frames + (f.max_stack + f.max_locals))

-- a frame is pushed on top
abbrev pub with_frame : NewFrame → FramesState → FramesState
with_frame f s = record s { frames = new_frame f ∷ s.frames }

-- the first of a list is changed
abbrev pub first_changed : {X : Type 0} → (X → X) → List X → List X
first_changed change [] = []
first_changed change (x ∷ xs) = change x ∷ xs

-- the frame on top is changed
abbrev pub on_top : (FrameState → FrameState) → FramesState → FramesState
on_top change s = record s { frames = first_changed change s.frames }

-- the top frame is dropped
abbrev pub without_frame : FramesState → FramesState
without_frame s = record s { frames = drop 1 s.frames }

-- the frame so many below the top
abbrev pub frame_at : FramesState → ℕ → Option FrameState
frame_at s down = slice_get s.frames down

-- the frame on top
abbrev pub top_of : FramesState → Option FrameState
top_of s = frame_at s 0

-- the value so many below the top of a stack
abbrev pub value_at : FrameState → ℕ → Option Value
value_at f down = slice_get f.stack down

-- the slots that a frame's stack has left
abbrev pub room_of : FrameState → ℕ
room_of f = f.max_stack - length f.stack

-- the frame stands at a place of its code
abbrev pub with_pc : ℕ → FrameState → FrameState
with_pc pc f = record f { pc = pc }

-- a local has another value
abbrev pub with_local : ℕ → Value → FrameState → FrameState
with_local at v f = record f { locals = slice_set f.locals at v }

-- a value is put on top of the stack
abbrev pub with_value : Value → FrameState → FrameState
with_value v f = record f { stack = v ∷ f.stack }

-- the value on top of the stack is taken
abbrev pub without_value : FrameState → FrameState
without_value f = record f { stack = drop 1 f.stack }

-- the top frame's stack, and none where there is no frame
abbrev pub stack_in : FramesState → List Value
stack_in s = option_map_or (λ (f : FrameState). f.stack) (top_of s) []

-- so many slots of the stack are taken
abbrev pub without_slots : ℕ → FrameState → FrameState
without_slots n f = record f { stack = drop n f.stack }

-- the locals of a called frame: so many slots of the caller's stack, the deepest first, and then nothing
abbrev pub called_locals : ℕ → ℕ → List Value → List Value
called_locals n most stack = reverse (take n stack) ++ replicate (most - n) values.Top

abbrev pub called_frame : NewFrame → ℕ → List Value → FrameState
called_frame f n stack = record (new_frame f) { locals = called_locals n f.max_locals stack }

-- a frame is called: so many slots of the stack below have moved into its locals
abbrev pub with_call : NewFrame → ℕ → FramesState → FramesState
with_call f n s = record s { frames = called_frame f n (stack_in s) ∷ first_changed (without_slots n) s.frames }

-- all values of the stack are taken
abbrev pub without_values : FrameState → FrameState
without_values f = record f { stack = [] }

-- the slots of the top frame's locals, and none where there is no frame
abbrev pub locals_in : FramesState → ℕ
locals_in s = option_map_or (λ (f : FrameState). f.max_locals) (top_of s) 0

-- the values on the top frame's stack
abbrev pub height_in : FramesState → ℕ
height_in s = option_map_or (λ (f : FrameState). length f.stack) (top_of s) 0

-- the slots that the top frame's stack has left
abbrev pub room_in : FramesState → ℕ
room_in s = option_map_or room_of (top_of s) 0

-- The frame on top stays, with its locals. Its stack has so many values now, and room for all others that it may have.
pub record StaysOnTop (old new : FramesState) (count : ℕ) : Type 0 where
  pub there : IsSome (top_of new)
  pub locals : locals_in new ≡ locals_in old
  pub height : height_in new ≡ count
  pub room : room_in new + height_in new ≡ room_in old + height_in old

-- A frame has its locals, and no more on its stack than it may.
pub record IsWithin (f : FrameState) : Type 0 where
  pub locals : length f.locals ≡ f.max_locals
  pub stack : length f.stack ≤ f.max_stack

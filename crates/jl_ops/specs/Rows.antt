-- What an instruction does to a store (JVMS 6.5), and how it ends.
use Rattle.std.specs.Prelude.{◌≡◌, ℕ, ℤ, List, Option, None, Some, Result, Ok, Err, Bool, true, false, ◌==◌}
use Rattle.std.specs.List.{find}
use Rattle.std.specs.Option.{option_and_then, option_map_or}
use Rattle.jl_reading.specs.Reading.{◌>>=◌}
use Rattle.jl_code.specs.declared.code.Arg.{Arg}
use Rattle.jl_code.specs.declared.code.Arg.TheVariants as args
use Rattle.jl_code.specs.declared.code.Instr.{Instr}
use Rattle.jl_code.specs.declared.code.Code.{Code}
use Rattle.jl_code.specs.declared.code.Code.TheVariants as codes
use Rattle.jl_heap.specs.declared.value.Kind.{Kind}
use Rattle.jl_heap.specs.declared.store.Store.{Store}
use Rattle.jl_heap.specs.declared.ends.RowEnd.{RowEnd}
use Rattle.jl_heap.specs.declared.ends.RowEnd.TheVariants as ends
use Rattle.jl_heap.specs.Frames.{FrameState, FramesState, top_of}
use Rattle.jl_ops.specs.declared.row.Row.{Row}
use Rattle.jl_ops.specs.declared.row.Row.TheVariants as rows
use Rattle.jl_ops.specs.declared.stop.Stop.{Stop}
use Rattle.jl_ops.specs.Arrays.{array_row, made}
use Rattle.jl_ops.specs.Branches.{branched, switched}
use Rattle.jl_ops.specs.Decoding.{row_of, is_plain}
use Rattle.jl_ops.specs.FrameRows.{frame_row}
use Rattle.jl_ops.specs.Leaving.{returned, raised}
use Rattle.jl_ops.specs.Operands.{no_room, at_place}
use Rattle.jl_ops.specs.Places.{next_place}
use Rattle.jl_ops.specs.Stops.{end_of, IsEnd}

-- ---- what an instruction does

-- a store with other frames
abbrev pub with_frames : FramesState → Store → Store
with_frames f s = record s { frames = f }

-- the top frame stands at a place
abbrev pub standing : ℕ → Store → Store
standing place s = with_frames (at_place place s.frames) s

-- What a return does. The frame below stays at the place of its call; who called moves it on.
abbrev pub return_does : Option Kind → Store → Result Store Stop
return_does kind s = returned kind s.frames >>= λ f. Ok (with_frames f s)

-- what a switch does
abbrev pub switch_does : ℕ → List (ℤ × ℕ) → Store → Result Store Stop
switch_does other cases s = switched other cases s.frames >>= λ f. Ok (with_frames f s)

-- What a row does, where the next instruction stands at a place. Rows of frames and arrays go on there, and the others say themselves where they lead.
abbrev pub row_does : Row → ℕ → Store → Result Store Stop
row_does (rows.Frame r) next s = frame_row r s.frames >>= λ f. Ok (standing next (with_frames f s))
row_does (rows.Array r) next s = array_row r s >>= λ t. Ok (standing next t)
row_does (rows.NewArray letter) next s = made letter s >>= λ t. Ok (standing next t)
row_does (rows.Branch test place) next s = branched test place next s.frames >>= λ f. Ok (with_frames f s)
row_does (rows.Return kind) next s = return_does kind s
row_does rows.Throw next s = raised s.frames >>= λ f. Ok (with_frames f s)

-- A switch leads by its operands. Nothing is meant by the last line: what has no row is not executed here.
abbrev pub row_by : Arg → Option Row → ℕ → Store → Result Store Stop
row_by (args.Switch other cases) r next s = switch_does other cases s
row_by arg (Some r) next s = row_does r next s
row_by arg None next s = Err no_room

-- what an instruction does: the store behind it, or why it does not go on
unfoldable pub row : Instr → Store → Result Store Stop
row i s = row_by i.arg (row_of i) (next_place i) s

-- ---- the instruction at hand

-- the instruction that stands at a place: the first, and in code that was decoded the only one
abbrev pub instr_at : Code → ℕ → Option Instr
instr_at (codes.Instructions instrs) place = find (λ (i : Instr). i.at == place) instrs
instr_at (codes.Stub op) place = None

-- the instruction at which the top frame stands
abbrev pub instr_under : Code → Store → Option Instr
instr_under code s = option_and_then (λ (f : FrameState). instr_at code f.pc) (top_of s.frames)

-- the top frame stands at an instruction that is executed here
abbrev pub stands_at_plain : Code → Store → Bool
stands_at_plain code s = option_map_or is_plain (instr_under code s) false

-- ---- how the code answers

-- the row makes an array
abbrev pub is_new_array : Option Row → Bool
is_new_array (Some (rows.NewArray letter)) = true
is_new_array r = false

-- A row that goes on answers so, with the store that it says. Want of memory for a new array leaves the store as before.
abbrev pub GoesOn : Bool → Store → Store → RowEnd → Store → Type 0
GoesOn true said old ends.NoMemory new = new ≡ old
GoesOn takes_memory said old end new = (end ≡ ends.Next) × (new ≡ said)

-- A row that does not go on says why, and has changed nothing.
abbrev pub Ends : Bool → Result Store Stop → Store → RowEnd → Store → Type 0
Ends takes_memory (Ok said) old end new = GoesOn takes_memory said old end new
Ends takes_memory (Err stop) old end new = IsEnd (end_of stop) end × (new ≡ old)

-- the call answered as the instruction says
abbrev pub IsRow : Instr → Store → RowEnd → Store → Type 0
IsRow i old end new = Ends (is_new_array (row_of i)) (row i old) old end new

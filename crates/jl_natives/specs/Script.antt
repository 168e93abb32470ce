-- A native method (JVMS 4.6) of the outside whose answers stand in a list.
use Rattle.std.specs.Prelude.{ℕ, List, [], ◌∷◌, ◌++◌, drop, true, Option, Some, None, Result, Ok, Err}
use Rattle.jl_logic.specs.Counts.{raised}
use Rattle.jl_natives.specs.declared.plain.Plain.{Plain}
use Rattle.jl_natives.specs.declared.native.NativeEnd.{NativeEnd}
use Rattle.jl_natives.specs.declared.native.NativeEnd.TheVariants.{Throws, Failed, NoMemory}
use Rattle.jl_natives.specs.Boxes.{View}

-- its row, the answers that it gave, those that are left, and how often it failed
pub record Script : Type 0 where
  pub row : ℕ
  pub given : List Plain
  pub left : List Plain
  pub faults : ℕ

abbrev pub script_view : Script → View
script_view s = record { row = s.row; answers = Some s.given; faults = s.faults; counts_exactly = true }

-- what an error of it tells: all but want of memory
abbrev pub known : NativeEnd → Option NativeEnd
known (Throws kind message) = Some (Throws kind message)
known Failed = Some Failed
known NoMemory = None

-- the next answer, and a failure past the end
abbrev pub next_of : List Plain → Result Plain NativeEnd
next_of [] = Err Failed
next_of (v ∷ vs) = Ok v

-- an answer was given, a failure counted, and else nothing changed
abbrev pub after_call : Result Plain NativeEnd → Script → Script
after_call (Ok v) s = record s { given = s.given ++ v ∷ []; left = drop 1 s.left }
after_call (Err (Throws kind message)) s = s
after_call (Err Failed) s = record s { faults = raised s.faults }
after_call (Err NoMemory) s = s

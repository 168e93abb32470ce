-- Branches and switches (JVMS 6.5): where they lead.
use Rattle.std.specs.Prelude.{◌≡◌, ℕ, ℤ, pos, List, [], ◌∷◌, Option, None, Some, Result, Ok, Err, Bool, true, false, ◌==◌, if◌then◌else◌}
use Rattle.std.specs.Option.{is_none}
use Rattle.std.specs.Ordering.{int_eq}
use Rattle.std.specs.Bool.{beq}
use Rattle.jl_reading.specs.Reading.{◌>>=◌}
use Rattle.jl_prim.specs.declared.numbers.ObjRef.{ObjRef}
use Rattle.jl_ops.specs.declared.stop.Stop.{Stop}
use Rattle.jl_heap.specs.Frames.{FramesState}
use Rattle.jl_ops.specs.declared.row.Test.{Test}
use Rattle.jl_ops.specs.declared.row.Test.TheVariants as tests
use Rattle.jl_ops.specs.Arithmetic.{holds}
use Rattle.jl_ops.specs.Operands.{int_under, ref_under, popped, at_place}

-- the same object, or null both
abbrev pub is_same : Option ObjRef → Option ObjRef → Bool
is_same None None = true
is_same (Some a) (Some b) = a.0 == b.0
is_same a b = false

-- the operands of a branch are taken, and whether it is taken itself
unfoldable pub tested : Test → FramesState → Result (Bool × FramesState) Stop
tested tests.Always s = Ok (true, s)
tested (tests.Zero condition) s = int_under s 0 >>= λ n. Ok (holds condition n (pos 0), popped s)
tested (tests.Ints condition) s = int_under s 0 >>= λ b. int_under s 1 >>= λ a. Ok (holds condition a b, popped (popped s))
tested (tests.Same wants) s = ref_under s 0 >>= λ b. ref_under s 1 >>= λ a. Ok (beq (is_same a b) wants, popped (popped s))
tested (tests.Null wants) s = ref_under s 0 >>= λ o. Ok (beq (is_none o) wants, popped s)

-- How the code answers: whether the branch is taken, with its operands taken, or it ended and nothing has changed.
abbrev pub Tests : Result (Bool × FramesState) Stop → FramesState → Result Bool Stop → FramesState → Type 0
Tests said old (Ok is_taken) new = said ≡ Ok (is_taken, new)
Tests said old (Err e) new = (said ≡ Err e) × (new ≡ old)

-- A branch that is taken leads to its place, and another one to the next.
unfoldable pub branched : Test → ℕ → ℕ → FramesState → Result FramesState Stop
branched test place next s = tested test s >>= λ t. Ok (at_place (if t.0 then place else next) t.1)

-- the place of the first case with a key, and that of all other keys where there is none
abbrev pub chosen : ℤ → ℕ → List (ℤ × ℕ) → ℕ
chosen key other [] = other
chosen key other (case ∷ cases) = if int_eq case.0 key then case.1 else chosen key other cases

-- a switch leads to the place of its key
unfoldable pub switched : ℕ → List (ℤ × ℕ) → FramesState → Result FramesState Stop
switched other cases s = int_under s 0 >>= λ key. Ok (at_place (chosen key other cases) (popped s))

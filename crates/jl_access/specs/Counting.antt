-- What a note makes of the line of its key in the report of the checks (JVMS 5.4.4).
use Rattle.std.specs.Prelude.{ℕ, Option, None, Some}
use Rattle.jl_logic.specs.Counts.{raised}

-- the step of the first note, and the count, after a note at a step
abbrev pub after_note : ℕ → Option (ℕ × ℕ) → ℕ × ℕ
after_note step None = (step, 1)
after_note step (Some l) = (l.0, raised l.1)

-- A check that is noted, as the code takes its steps. No public clause cites these.
use Rattle.std.specs.Prelude.{ℕ, Option, None, Some, if◌then◌else◌}
use Rattle.jl_access.specs.declared.verdict.Verdict.{Verdict}
use Rattle.jl_access.specs.declared.report.Key.{Key}
use Rattle.jl_access.specs.declared.report.NoteKind.{NoteKind}
use Rattle.jl_access.specs.Reports.{is_due}
use Rattle.jl_loads.specs.Worlds.{State, Loaded, with_note}
use Rattle.jl_loads.specs.Loading.{key}

-- the note of a check, where the two modules differ
abbrev pub due_key : Loaded → Loaded → NoteKind → Verdict → Option Key
due_key from to kind verdict = if is_due from.home to.home then Some (key from to kind verdict) else None

-- with a note, where there is one
abbrev pub with_due : Option Key → ℕ → State → State
with_due None at s = s
with_due (Some k) at s = with_note k at s

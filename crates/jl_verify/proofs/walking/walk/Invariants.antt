use Rattle.std.proofs.Common.{◌≡◌, ℕ, ◌-◌, length, Option, Result}
use Rattle.jl_verify.specs.Checks.{falling, failing_from, first_failed}
use Rattle.jl_verify.specs.Comes.{Comes}
use Rattle.jl_verify.specs.declared.rule.CheckRule.{CheckRule}
use Rattle.jl_verify.specs.declared.fault.VerifyFault.{VerifyFault}
use Rattle.jl_verify.proofs.Tables.{table}
use Rattle.jl_verify.proofs.walking.walk.Given as goal

abbrev pub invariant-loop-index : goal.invariant-loop-index
invariant-loop-index g l =
    (l.falling ≡ falling l.c (table l.c) l.index)
    × ((result : Result (Option (ℕ × CheckRule)) VerifyFault) (new : g.row.H.Denot)
    → Comes g.H.Hierarchy.step (failing_from l.c (table l.c) (length l.c.instrs - l.index) l.index) l.h result new
    → Comes g.H.Hierarchy.step (first_failed l.c (table l.c)) l.initial.h result new)

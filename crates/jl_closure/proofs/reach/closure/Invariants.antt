use Rattle.std.proofs.Common.{◌+◌, length}
use Rattle.jl_closure.proofs.Marking.{unmarked}
use Rattle.jl_closure.proofs.Closing.{IsClosing}
use Rattle.jl_closure.proofs.reach.closure.Given as goal

abbrev pub invariant-loop-place : goal.invariant-loop-place
invariant-loop-place l = IsClosing l.next l.starts l.marks.items l.work.items

abbrev pub decreases-loop-place : goal.decreases-loop-place
decreases-loop-place l = unmarked l.marks.items + length l.work.items

use Rattle.std.proofs.Common.{◌≡◌, ◌≤◌, ◌++◌, drop, length}
use Rattle.jl_link.specs.Searching.{entered}
use Rattle.jl_link.proofs.fields.enter_all.Given as goal

abbrev pub invariant-loop-left : goal.invariant-loop-left
invariant-loop-left l = record { within : l.left ≤ length l.classes; pushed : l.steps.items ≡ l.fn.steps.items ++ entered (drop l.left l.classes) }

abbrev pub decreases-loop-left : goal.decreases-loop-left
decreases-loop-left l = l.left

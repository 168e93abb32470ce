use Rattle.std.proofs.Common.{◌≡◌, length}
use Rattle.jl_ops.specs.Branches as words
use Rattle.jl_ops.proofs.branches.chosen.Given as goal

abbrev pub invariant-loop-rest : goal.invariant-loop-rest
invariant-loop-rest l = words.chosen l.key l.other l.rest ≡ words.chosen l.fn.key l.fn.other l.fn.cases

abbrev pub decreases-loop-rest : goal.decreases-loop-rest
decreases-loop-rest l = length l.rest

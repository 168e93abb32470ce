use Rattle.std.proofs.Common.{length, ◌≡◌, ◌++◌}
use Rattle.jl_modinfo.specs.Rules.{granted}
use Rattle.jl_modinfo.proofs.rules.add_granted.Given as goal

abbrev pub invariant-loop-rest : goal.invariant-loop-rest
invariant-loop-rest l = l.named ++ granted l.rest ≡ l.fn.named ++ granted l.grants

abbrev pub decreases-loop-rest : goal.decreases-loop-rest
decreases-loop-rest l = length l.rest

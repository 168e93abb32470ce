use Rattle.std.proofs.Common.{length, ◌≡◌, ◌++◌}
use Rattle.jl_modinfo.specs.Rules.{implementing}
use Rattle.jl_modinfo.proofs.rules.add_implementing.Given as goal

abbrev pub invariant-loop-rest : goal.invariant-loop-rest
invariant-loop-rest l = l.named ++ implementing l.rest ≡ l.fn.named ++ implementing l.provides

abbrev pub decreases-loop-rest : goal.decreases-loop-rest
decreases-loop-rest l = length l.rest

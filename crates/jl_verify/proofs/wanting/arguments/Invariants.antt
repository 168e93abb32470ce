use Rattle.std.proofs.Common.{◌≡◌, ◌++◌, length}
use Rattle.jl_verify.specs.Moves.{arguments_of}
use Rattle.jl_verify.proofs.wanting.arguments.Given as goal

abbrev pub invariant-loop-param : goal.invariant-loop-param
invariant-loop-param l = l.all.items ++ arguments_of l.params.items ≡ arguments_of l.initial.params.items

abbrev pub decreases-loop-param : goal.decreases-loop-param
decreases-loop-param l = length l.params.items

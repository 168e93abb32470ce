use Rattle.std.proofs.Common.{◌≡◌, ◌++◌, drop}
use Rattle.jl_verify.specs.Moves.{says}
use Rattle.jl_verify.proofs.wanting.says.Given as goal

abbrev pub invariant-loop-want : goal.invariant-loop-want
invariant-loop-want l = l.all.items ++ says (drop l.want-index l.wants) ≡ says l.wants

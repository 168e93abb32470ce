use Rattle.std.proofs.Common.{◌≡◌, replicate}
use Rattle.jl_verify.specs.Moves.{says}
use Rattle.jl_verify.proofs.wanting.says_all.Given as goal

abbrev pub invariant-loop : goal.invariant-loop
invariant-loop l = l.all.items ≡ says (replicate l.counter l.want)

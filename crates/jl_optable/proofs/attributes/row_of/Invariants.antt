use Rattle.std.proofs.Common.{◌≡◌, length}
use Rattle.jl_optable.specs.Attributes.{first_row}
use Rattle.jl_optable.proofs.attributes.row_of.Given as goal

abbrev pub invariant-loop-rest : goal.invariant-loop-rest
invariant-loop-rest l = first_row l.site l.major l.name l.rest ≡ first_row l.site l.major l.name l.rows

abbrev pub decreases-loop-rest : goal.decreases-loop-rest
decreases-loop-rest l = length l.rest

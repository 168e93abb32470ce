use Rattle.jl_base.proofs.Laws.{flagged}
use Rattle.jl_base.proofs.law.flags_are_right.Goals as goal

pub returns : goal.returns
returns c = flagged

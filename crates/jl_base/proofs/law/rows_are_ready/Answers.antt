use Rattle.jl_base.proofs.Laws.{ready}
use Rattle.jl_base.proofs.law.rows_are_ready.Goals as goal

pub returns : goal.returns
returns c = ready

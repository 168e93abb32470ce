use Rattle.jl_base.proofs.Laws.{apart}
use Rattle.jl_base.proofs.law.members_are_apart.Goals as goal

pub returns : goal.returns
returns c = apart

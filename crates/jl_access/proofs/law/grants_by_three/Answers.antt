use Rattle.jl_access.proofs.Granting.{by_three}
use Rattle.jl_access.proofs.law.grants_by_three.Goals as goal

pub returns : goal.returns
returns c = by_three

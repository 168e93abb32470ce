use Rattle.jl_access.proofs.Granting.{by_an_opening}
use Rattle.jl_access.proofs.law.deep_by_an_opening.Goals as goal

pub returns : goal.returns
returns c = by_an_opening

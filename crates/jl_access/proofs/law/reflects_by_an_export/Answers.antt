use Rattle.jl_access.proofs.Granting.{by_an_export}
use Rattle.jl_access.proofs.law.reflects_by_an_export.Goals as goal

pub returns : goal.returns
returns c = by_an_export

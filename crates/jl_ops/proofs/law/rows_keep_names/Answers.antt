use Rattle.jl_ops.proofs.NamingLaw.{rows_keep}
use Rattle.jl_ops.proofs.law.rows_keep_names.Goals as goal

pub returns : goal.returns
returns c = rows_keep c.objects_stay.ensures

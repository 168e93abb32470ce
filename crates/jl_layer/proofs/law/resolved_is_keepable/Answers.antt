use Rattle.jl_layer.proofs.Resolved.{resolved_keepable}
use Rattle.jl_layer.proofs.law.resolved_is_keepable.Goals as goal

pub returns : goal.returns
returns c = resolved_keepable

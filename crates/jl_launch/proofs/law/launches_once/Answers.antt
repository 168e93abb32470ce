use Rattle.jl_launch.proofs.Once as once
use Rattle.jl_launch.proofs.law.launches_once.Goals as goal

pub returns : goal.returns
returns c = once.launches_once c.resolves_once.ensures

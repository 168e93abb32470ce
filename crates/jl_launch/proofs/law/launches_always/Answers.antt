use Rattle.jl_launch.proofs.Always as always
use Rattle.jl_launch.proofs.law.launches_always.Goals as goal

pub returns : goal.returns
returns c = always.launched_always c.resolves_always.ensures

use Rattle.jl_config.proofs.Always as always
use Rattle.jl_config.proofs.law.resolves_always.Goals as goal

pub returns : goal.returns
returns c = always.resolves_always

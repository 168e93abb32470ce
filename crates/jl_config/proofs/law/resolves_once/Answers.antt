use Rattle.jl_config.proofs.Unique as unique
use Rattle.jl_config.proofs.law.resolves_once.Goals as goal

pub returns : goal.returns
returns c = unique.resolves_once

use Rattle.jl_modinfo.proofs.Longer as longer
use Rattle.jl_modinfo.proofs.law.reads_longer.Goals as goal

pub returns : goal.returns
returns c = longer.reads_longer

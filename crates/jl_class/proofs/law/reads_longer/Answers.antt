use Rattle.jl_class.proofs.Longer as longer
use Rattle.jl_class.proofs.law.reads_longer.Goals as goal

pub returns : goal.returns
returns c = longer.reads_longer

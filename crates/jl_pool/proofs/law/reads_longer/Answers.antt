use Rattle.jl_pool.proofs.Longer.{pool_longer}
use Rattle.jl_pool.proofs.law.reads_longer.Goals as goal

pub returns : goal.returns
returns c = pool_longer

use Rattle.jl_config.proofs.Always as always
use Rattle.jl_config.proofs.law.refuses_where_one_holds.Goals as goal

pub returns : goal.returns
returns c = always.refuses_where_one_holds

use Rattle.jl_loads.proofs.Found.{loads_stay_lem}
use Rattle.jl_loads.proofs.law.loads_stay.Goals as goal

pub returns : goal.returns
returns c = loads_stay_lem c.layers_stay.ensures c.tables_are_read.ensures.tables

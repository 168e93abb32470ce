use Rattle.jl_loads.proofs.Granted.{access_stays_lem}
use Rattle.jl_loads.proofs.law.access_stays.Goals as goal

pub returns : goal.returns
returns c = access_stays_lem c.grants_stay.ensures

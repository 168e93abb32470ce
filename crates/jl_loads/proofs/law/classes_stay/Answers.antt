use Rattle.jl_loads.proofs.Staying.{classes_stay_lem}
use Rattle.jl_loads.proofs.law.classes_stay.Goals as goal

pub returns : goal.returns
returns c = classes_stay_lem c.layers_stay.ensures

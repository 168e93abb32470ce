use Rattle.jl_layer.proofs.Staying.{layers_stay_lem}
use Rattle.jl_layer.proofs.law.layers_stay.Goals as goal

pub returns : goal.returns
returns c = layers_stay_lem c.leads_stay.ensures c.facts_stay.ensures

use Rattle.std.proofs.Common.{subst}
use Rattle.jl_loaders.specs.Loaders as delegation
use Rattle.jl_loaders.specs.Laws.{ParentsBelow}
use Rattle.jl_layer.proofs.Leading.{leads_by_layers_lem}
use Rattle.jl_layer.proofs.law.leads_by_layers.Goals as goal

pub returns : goal.returns
returns c =
    leads_by_layers_lem c.args.layers.now c.stay_sound.ensures
    (subst (λ (x : delegation.State). ParentsBelow x.loaders) c.loaders.ensures c.are_sound.ensures.below)

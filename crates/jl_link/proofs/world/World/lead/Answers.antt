use Rattle.std.proofs.Common.{◌≡◌, Option, Some, None, IfSome, refl, sym, ap, ◌∙◌, subst}
use Rattle.jl_prim.specs.declared.numbers.ModuleId.{ModuleId}
use Rattle.jl_layer.specs.Layers as layers
use Rattle.jl_layer.specs.Layers.{IsModule}
use Rattle.jl_loaders.specs.Loaders as delegation
use Rattle.jl_loads.specs.Worlds.{State}
use Rattle.jl_loads.proofs.Leading.{lead_there}
use Rattle.jl_link.proofs.world.World.lead.Goals as goal

-- what a lead that is there has
there : {P : ModuleId → Type 0} (o : Option ModuleId) → ((m : ModuleId) → o ≡ Some m → P m) → IfSome o P
there None h = tt
there (Some m) h = h m refl

pub returns-clause-there : goal.returns-clause-there
returns-clause-there c = there c.lead.result (λ m is. subst (λ (l : layers.State). IsModule l m) c.layers-layers.ensures (lead_there c.layers-layers.result.now c.are_sound.ensures c.leads_by_layers.ensures c.args.l c.args.name.now m (ap (λ l. delegation.lead l c.args.l c.args.name.now) (sym c.loaders.ensures) ∙ (sym c.lead.ensures ∙ is))))

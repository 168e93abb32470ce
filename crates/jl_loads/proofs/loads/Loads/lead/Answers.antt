use Rattle.std.proofs.Common.{ap, ◌∙◌}
use Rattle.jl_loaders.specs.Loaders.{lead}
use Rattle.jl_loads.proofs.Modules.{leads_there}
use Rattle.jl_loads.proofs.loads.Loads.lead.Goals as goal

pub returns-clause-there : goal.returns-clause-there
returns-clause-there c =
    leads_there c.self.inside.layers c.args.self.now.layers c.args.loader c.args.name.now c.lead.result (ap (λ w. w.layers) c.self.view_is) c.leads_by_layers.ensures c.requires
    (c.lead.ensures ∙ ap (λ ls. lead ls c.args.loader c.args.name.now) c.loaders.ensures)

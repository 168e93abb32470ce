use Rattle.std.proofs.Common.{ap}
use Rattle.jl_loads.proofs.Modules.{loader_of_there}
use Rattle.jl_loads.proofs.loads.Loads.loader_of_module.Goals as goal

pub returns-clause-there : goal.returns-clause-there
returns-clause-there c =
    loader_of_there c.self.inside.layers c.args.self.now.layers c.args.m c.loader_of_module.result (ap (λ w. w.layers) c.self.view_is) c.are_sound.ensures c.requires c.loader_of_module.ensures

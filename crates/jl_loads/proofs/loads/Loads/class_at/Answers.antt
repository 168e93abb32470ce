use Rattle.jl_loads.proofs.Soundness.{class_loader}
use Rattle.jl_loads.proofs.loads.Loads.class_at.Goals as goal

pub returns-clause-module : goal.returns-clause-module
returns-clause-module c = (c.stay_sound.ensures.classes c.args.c c.numbered.result.now c.numbered.ensures).home

pub returns-clause-loader : goal.returns-clause-loader
returns-clause-loader c = class_loader c.args.self.now c.args.c c.numbered.result.now c.stay_sound.ensures c.numbered.ensures

use Rattle.jl_loads.proofs.Soundness.{super_there}
use Rattle.jl_loads.proofs.loads.Loads.super_of.Goals as goal

pub returns-clause-there : goal.returns-clause-there
returns-clause-there c = super_there c.args.self.now c.args.c c.class_at.result.now c.superclass.result c.stay_sound.ensures c.class_at.ensures.class c.superclass.ensures

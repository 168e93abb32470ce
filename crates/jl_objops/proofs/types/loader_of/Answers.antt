use Rattle.jl_objops.proofs.Refusing.{loader_there}
use Rattle.jl_objops.proofs.types.loader_of.Goals as goal

pub returns-clause-there : goal.returns-clause-there
returns-clause-there c = loader_there c.args.world.now c.args.d c.loader_of.result c.sound_stays.ensures c.is_sound.ensures c.requires c.loader_of.ensures

use Rattle.jl_link.proofs.Moved.{moves_onward}
use Rattle.jl_link.proofs.constraining.+impose_types.Goals as goal

pub returns-in-Ok-clause-moves : goal.returns-in-Ok-clause-moves
returns-in-Ok-clause-moves t c = moves_onward c.args.loads.now c.impose_type.new.loads c.impose_types.new.loads c.in-Ok.ensures.moves c.impose_types.ensures.moves

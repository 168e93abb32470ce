use Rattle.jl_objops.proofs.Ending.{resolved, finished}
use Rattle.jl_objops.specs.Casts.{cast_done}
use Rattle.jl_objops.proofs.casts.cast_object.Goals as goal

pub returns-clause-row : goal.returns-clause-row
returns-clause-row g c = λ files told.
    resolved (cast_done c.args.op c.args.next c.args.store.now c.args.caller c.args.o) c.args.store.now c.refer.new.world _ c.in-Ok.target c.ended.result _ (c.in-Ok.ensures.refers files told)
    (finished _ c.args.store.now _ c.refer.new.world c.ended.result c.cast_done-done.result c.cast_done-done.ensures c.ended.ensures)

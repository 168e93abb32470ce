use Rattle.jl_objops.proofs.Ending.{resolved, finished}
use Rattle.jl_objops.specs.Objects.{class_loaded}
use Rattle.jl_objops.proofs.constants.class_row.Goals as goal

pub returns-clause-row : goal.returns-clause-row
returns-clause-row g c = λ files told.
    resolved (class_loaded c.args.next c.args.store.now c.args.caller.class) c.args.store.now c.refer.new.world _ c.in-Ok.target c.ended.result _ (c.in-Ok.ensures.refers files told)
    (finished _ c.args.store.now _ c.refer.new.world c.ended.result c.class_loaded-done.result c.class_loaded-done.ensures c.ended.ensures)

use Rattle.jl_vtypes.specs.Assignability.{subclass_asks}
use Rattle.jl_verify.proofs.Comings.{answered, unanswered}
use Rattle.jl_verify.proofs.asking.is_subclass.Goals as goal

pub returns-in-Ok : goal.returns-in-Ok
returns-in-Ok g c = answered g.H.Hierarchy.step (subclass_asks c.args.from.now c.args.to.now) c.args.h.now c.ask_subclass.new.h c.in-Ok.answer (rw c.in-Ok.is at c.ask_subclass.ensures)

pub returns-in-Err : goal.returns-in-Err
returns-in-Err g c =
    unanswered g.H.Hierarchy.step (subclass_asks c.args.from.now c.args.to.now) c.args.h.now c.ask_subclass.new.h c.in-Err.unanswered.name.now c.in-Err.unanswered.end c.missing.result
    (rw c.in-Err.is at c.ask_subclass.ensures) c.missing.ensures

use Rattle.jl_vtypes.specs.Assignability.{goes}
use Rattle.jl_verify.proofs.Comings.{answered, unanswered}
use Rattle.jl_verify.proofs.asking.goes_to.Goals as goal

pub returns-in-Ok : goal.returns-in-Ok
returns-in-Ok g c = answered g.H.Hierarchy.step (goes c.args.from.now c.args.to.now) c.args.h.now c.is_going.new.h c.in-Ok.answer (rw c.in-Ok.is at c.is_going.ensures)

pub returns-in-Err : goal.returns-in-Err
returns-in-Err g c =
    unanswered g.H.Hierarchy.step (goes c.args.from.now c.args.to.now) c.args.h.now c.is_going.new.h c.in-Err.unanswered.name.now c.in-Err.unanswered.end c.missing.result
    (rw c.in-Err.is at c.is_going.ensures) c.missing.ensures

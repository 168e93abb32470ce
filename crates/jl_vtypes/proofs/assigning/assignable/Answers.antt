use Rattle.std.proofs.Common.{Ok, Err}
use Rattle.jl_vtypes.specs.Unanswered.{no_answer, seen}
use Rattle.jl_vtypes.specs.Assignability.{goes}
use Rattle.jl_vtypes.proofs.Coming.{with_fault}
use Rattle.jl_vtypes.proofs.assigning.assignable.Goals as goal

pub returns-in-Ok : goal.returns-in-Ok
returns-in-Ok g c =
    with_fault g.H.Hierarchy.step (λ p. p.1) no_answer (goes c.args.from.now c.args.to.now) c.args.h.now c.is_going.new.h (seen (Ok c.in-Ok.goes)) (rw c.in-Ok.is at c.is_going.ensures)

pub returns-in-Err : goal.returns-in-Err
returns-in-Err g c =
    with_fault g.H.Hierarchy.step (λ p. p.1) no_answer (goes c.args.from.now c.args.to.now) c.args.h.now c.is_going.new.h (seen (Err c.in-Err.unanswered)) (rw c.in-Err.is at c.is_going.ensures)

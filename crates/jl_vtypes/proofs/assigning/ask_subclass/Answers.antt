use Rattle.std.proofs.Common.{Ok}
use Rattle.jl_vtypes.specs.declared.question.Question.TheVariants as questions
use Rattle.jl_vtypes.specs.Asking.{Done}
use Rattle.jl_vtypes.specs.Unanswered.{no_answer}
use Rattle.jl_vtypes.proofs.Coming.{done, goes_on, stops}
use Rattle.jl_vtypes.proofs.assigning.ask_subclass.Goals as goal

pub returns-in-Ok : goal.returns-in-Ok
returns-in-Ok g c =
    goes_on g.H.Hierarchy.step no_answer (questions.IsSubclass c.args.from.now c.args.to.now) Done
    c.args.h.now c.is_subclass.new.self c.is_subclass.new.self c.in-Ok.is_one (Ok c.in-Ok.is_one)
    (rw c.in-Ok.is at (rw (c.as_bytes.ensures.value, c.as_bytes-2.ensures.value) at c.is_subclass.ensures)) (done g.H.Hierarchy.step no_answer c.in-Ok.is_one c.is_subclass.new.self)

pub returns-in-Err : goal.returns-in-Err
returns-in-Err g c =
    stops g.H.Hierarchy.step no_answer (questions.IsSubclass c.args.from.now c.args.to.now) Done
    c.args.h.now c.is_subclass.new.self c.in-Err.end (rw c.in-Err.is at (rw (c.as_bytes.ensures.value, c.as_bytes-2.ensures.value) at c.is_subclass.ensures))

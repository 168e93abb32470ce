use Rattle.std.proofs.Common.{true, false, Ok}
use Rattle.jl_vtypes.specs.declared.question.Question.TheVariants as questions
use Rattle.jl_vtypes.specs.Unanswered.{no_answer, seen}
use Rattle.jl_vtypes.specs.Assignability.{unless_interface}
use Rattle.jl_vtypes.proofs.Coming.{done, goes_on, stops}
use Rattle.jl_vtypes.proofs.assigning.ask_for.Goals as goal

pub returns-in-Ok-false : goal.returns-in-Ok-false
returns-in-Ok-false g c =
    goes_on g.H.Hierarchy.step no_answer (questions.IsInterface c.args.to.now) (unless_interface c.args.from.now c.args.to.now)
    c.args.h.now c.is_interface.new.self c.ask_subclass.new.h false (seen c.ask_subclass.result)
    (rw c.in-Ok-false.field-0-test at (rw c.in-Ok-false.is at (rw c.as_bytes.ensures.value at c.is_interface.ensures))) c.ask_subclass.ensures

pub returns-in-Ok-true : goal.returns-in-Ok-true
returns-in-Ok-true g c =
    goes_on g.H.Hierarchy.step no_answer (questions.IsInterface c.args.to.now) (unless_interface c.args.from.now c.args.to.now)
    c.args.h.now c.is_interface.new.self c.is_interface.new.self true (Ok true)
    (rw c.in-Ok-true.field-0-test at (rw c.in-Ok-true.is at (rw c.as_bytes.ensures.value at c.is_interface.ensures)))
    (done g.H.Hierarchy.step no_answer true c.is_interface.new.self)

pub returns-in-Err : goal.returns-in-Err
returns-in-Err g c =
    stops g.H.Hierarchy.step no_answer (questions.IsInterface c.args.to.now) (unless_interface c.args.from.now c.args.to.now)
    c.args.h.now c.is_interface.new.self c.in-Err.end (rw c.in-Err.is at (rw c.as_bytes.ensures.value at c.is_interface.ensures))

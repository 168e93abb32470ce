use Rattle.std.proofs.Common.{◌∙◌, Bool, Result, Ok, ap, subst}
use Rattle.jl_vtypes.specs.Asking.{Done}
use Rattle.jl_vtypes.specs.Assignability.{goes}
use Rattle.jl_verify.specs.declared.fault.VerifyFault.{VerifyFault}
use Rattle.jl_verify.specs.Comes.{Comes}
use Rattle.jl_verify.proofs.Comings.{done, both_true, both_false, both_err}
use Rattle.jl_verify.proofs.applying.goes_near.Goals as goal

pub returns-in-Ok-true : goal.returns-in-Ok-true
returns-in-Ok-true g c =
    both_true g.H.Hierarchy.step (goes c.args.own.now c.args.named.now) (Done c.args.near) c.args.h.now c.goes_to.new.h (Ok c.args.near) c.goes_to.new.h
    (subst (λ (r : Result Bool VerifyFault). Comes g.H.Hierarchy.step (goes c.args.own.now c.args.named.now) c.args.h.now r c.goes_to.new.h) (c.in-Ok-true.is ∙ ap Ok c.in-Ok-true.field-0-test) c.goes_to.ensures)
    (done g.H.Hierarchy.step c.args.near c.goes_to.new.h)

pub returns-in-Ok-false : goal.returns-in-Ok-false
returns-in-Ok-false g c =
    both_false g.H.Hierarchy.step (goes c.args.own.now c.args.named.now) (Done c.args.near) c.args.h.now c.goes_to.new.h
    (subst (λ (r : Result Bool VerifyFault). Comes g.H.Hierarchy.step (goes c.args.own.now c.args.named.now) c.args.h.now r c.goes_to.new.h) (c.in-Ok-false.is ∙ ap Ok c.in-Ok-false.field-0-test) c.goes_to.ensures)

pub returns-in-Err : goal.returns-in-Err
returns-in-Err g c =
    both_err g.H.Hierarchy.step (goes c.args.own.now c.args.named.now) (Done c.args.near) c.in-Err.fault c.args.h.now c.goes_to.new.h
    (subst (λ (r : Result Bool VerifyFault). Comes g.H.Hierarchy.step (goes c.args.own.now c.args.named.now) c.args.h.now r c.goes_to.new.h) c.in-Err.is c.goes_to.ensures)

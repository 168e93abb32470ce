use Rattle.std.proofs.Common.{◌≡◌, ◌∙◌, ap}
use Rattle.jl_verify.specs.Checked.{Checked}
use Rattle.jl_verify.specs.declared.rule.CheckRule.TheVariants as rules
use Rattle.jl_verify.specs.Rules.{row, handlers_fit}
use Rattle.jl_verify.specs.Tried.{failed_of}
use Rattle.jl_verify.proofs.Placings.{holds, fails}
use Rattle.jl_verify.proofs.Comings.{rule_err}
use Rattle.jl_verify.proofs.placing.try_handlers.Goals as goal

pub returns-in-Ok-true-clause-tried : goal.returns-in-Ok-true-clause-tried
returns-in-Ok-true-clause-tried g c =
    let is : c.as_slice-handlers.result.now ≡ c.args.c.now.code.handlers = c.as_slice-handlers.ensures ∙ ap (λ (x : Checked). x.code.handlers) c.c.view_is in
    holds g.H.Hierarchy.step rules.Handler (handlers_fit c.args.c.now c.args.f c.args.i.now c.args.c.now.code.handlers) (row c.args.c.now c.args.had_room c.args.f c.args.i.now c.args.is_last)
    c.args.h.now c.handlers_fit.new.h (failed_of c.try_row.result) c.try_row.new.h c.in-Ok-true.field-0 c.in-Ok-true.field-0-test
    (rw is at c.in-Ok-true.ensures) c.try_row.ensures.tried

pub returns-in-Ok-false-clause-tried : goal.returns-in-Ok-false-clause-tried
returns-in-Ok-false-clause-tried g c =
    let is : c.as_slice-handlers.result.now ≡ c.args.c.now.code.handlers = c.as_slice-handlers.ensures ∙ ap (λ (x : Checked). x.code.handlers) c.c.view_is in
    fails g.H.Hierarchy.step rules.Handler (handlers_fit c.args.c.now c.args.f c.args.i.now c.args.c.now.code.handlers) (row c.args.c.now c.args.had_room c.args.f c.args.i.now c.args.is_last)
    c.args.h.now c.handlers_fit.new.h c.in-Ok-false.field-0 c.in-Ok-false.field-0-test (rw is at c.in-Ok-false.ensures)

pub returns-in-Err-clause-tried : goal.returns-in-Err-clause-tried
returns-in-Err-clause-tried g c =
    let is : c.as_slice-handlers.result.now ≡ c.args.c.now.code.handlers = c.as_slice-handlers.ensures ∙ ap (λ (x : Checked). x.code.handlers) c.c.view_is in
    rule_err g.H.Hierarchy.step rules.Handler (handlers_fit c.args.c.now c.args.f c.args.i.now c.args.c.now.code.handlers) (row c.args.c.now c.args.had_room c.args.f c.args.i.now c.args.is_last)
    c.in-Err.fault c.args.h.now c.handlers_fit.new.h (rw is at c.in-Err.ensures)

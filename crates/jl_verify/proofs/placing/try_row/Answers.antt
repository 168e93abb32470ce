use Rattle.jl_verify.specs.declared.rule.CheckRule.TheVariants as rules
use Rattle.jl_verify.specs.Rules.{room}
use Rattle.jl_verify.specs.Rows.{applies}
use Rattle.jl_verify.specs.Tried.{failed_of}
use Rattle.jl_verify.proofs.Placings.{holds, fails}
use Rattle.jl_verify.proofs.Comings.{rule_err}
use Rattle.jl_verify.proofs.placing.try_row.Goals as goal

pub returns-in-Ok-true-clause-tried : goal.returns-in-Ok-true-clause-tried
returns-in-Ok-true-clause-tried g c =
    holds g.H.Hierarchy.step rules.Operand (applies c.args.c.now c.args.f c.args.i.now) (room c.args.c.now c.args.had_room c.args.f c.args.i.now c.args.is_last)
    c.args.h.now c.applies.new.h (failed_of c.try_room.result) c.try_room.new.h c.in-Ok-true.field-0 c.in-Ok-true.field-0-test c.in-Ok-true.ensures c.try_room.ensures.tried

pub returns-in-Ok-false-clause-tried : goal.returns-in-Ok-false-clause-tried
returns-in-Ok-false-clause-tried g c =
    fails g.H.Hierarchy.step rules.Operand (applies c.args.c.now c.args.f c.args.i.now) (room c.args.c.now c.args.had_room c.args.f c.args.i.now c.args.is_last)
    c.args.h.now c.applies.new.h c.in-Ok-false.field-0 c.in-Ok-false.field-0-test c.in-Ok-false.ensures

pub returns-in-Err-clause-tried : goal.returns-in-Err-clause-tried
returns-in-Err-clause-tried g c =
    rule_err g.H.Hierarchy.step rules.Operand (applies c.args.c.now c.args.f c.args.i.now) (room c.args.c.now c.args.had_room c.args.f c.args.i.now c.args.is_last)
    c.in-Err.fault c.args.h.now c.applies.new.h c.in-Err.ensures

use Rattle.std.proofs.Common.{Some}
use Rattle.jl_verify.specs.declared.rule.CheckRule.TheVariants as rules
use Rattle.jl_verify.specs.Rules.{handled, falls_rightly}
use Rattle.jl_verify.specs.Tried.{failed_of}
use Rattle.jl_verify.proofs.Placings.{holds, fails}
use Rattle.jl_verify.proofs.Comings.{rule_err}
use Rattle.jl_verify.proofs.placing.try_declared.Goals as goal

pub returns-in-Ok-true-clause-tried : goal.returns-in-Ok-true-clause-tried
returns-in-Ok-true-clause-tried g c =
    holds g.H.Hierarchy.step rules.Frame (falls_rightly c.args.frames.1 (Some c.args.frames.0.now)) (handled c.args.c.now c.args.had_room c.args.frames.0.now c.args.i.now c.args.is_last)
    c.args.h.now c.falls_rightly.new.h (failed_of c.try_copied.result) c.try_copied.new.h c.in-Ok-true.field-0 c.in-Ok-true.field-0-test c.in-Ok-true.ensures c.try_copied.ensures.tried

pub returns-in-Ok-false-clause-tried : goal.returns-in-Ok-false-clause-tried
returns-in-Ok-false-clause-tried g c =
    fails g.H.Hierarchy.step rules.Frame (falls_rightly c.args.frames.1 (Some c.args.frames.0.now)) (handled c.args.c.now c.args.had_room c.args.frames.0.now c.args.i.now c.args.is_last)
    c.args.h.now c.falls_rightly.new.h c.in-Ok-false.field-0 c.in-Ok-false.field-0-test c.in-Ok-false.ensures

pub returns-clause-tried : goal.returns-clause-tried
returns-clause-tried g c =
    rule_err g.H.Hierarchy.step rules.Frame (falls_rightly c.args.frames.1 (Some c.args.frames.0.now)) (handled c.args.c.now c.args.had_room c.args.frames.0.now c.args.i.now c.args.is_last)
    c.in-Err.fault c.args.h.now c.falls_rightly.new.h c.in-Err.ensures

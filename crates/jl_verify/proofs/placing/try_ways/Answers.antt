use Rattle.std.proofs.Common.{not, ◌&&◌, None, Ok}
use Rattle.jl_vtypes.specs.Asking.{Done}
use Rattle.jl_verify.specs.declared.rule.CheckRule.TheVariants as rules
use Rattle.jl_verify.specs.Families.{leaves}
use Rattle.jl_verify.specs.Rules.{leads, targets, rule}
use Rattle.jl_verify.specs.Tried.{failed_of}
use Rattle.jl_verify.proofs.Placings.{holds, fails, last_said}
use Rattle.jl_verify.proofs.Comings.{rule_err}
use Rattle.jl_verify.proofs.placing.try_ways.Goals as goal

pub returns-in-Ok-true-clause-tried : goal.returns-in-Ok-true-clause-tried
returns-in-Ok-true-clause-tried g c =
    holds g.H.Hierarchy.step rules.Target (leads c.args.c.now c.args.next (targets c.args.i.now.arg)) (rule rules.End (Done (not (c.args.is_last && not (leaves c.args.i.now.op)))) (Done None))
    c.args.h.now c.leads.new.h (failed_of (Ok c.try_end.result)) c.leads.new.h c.in-Ok-true.field-0 c.in-Ok-true.field-0-test c.in-Ok-true.ensures
    (last_said g.H.Hierarchy.step rules.End (not (c.args.is_last && not (leaves c.args.i.now.op))) c.leads.new.h (failed_of (Ok c.try_end.result)) c.try_end.ensures.tried)

pub returns-in-Ok-false-clause-tried : goal.returns-in-Ok-false-clause-tried
returns-in-Ok-false-clause-tried g c =
    fails g.H.Hierarchy.step rules.Target (leads c.args.c.now c.args.next (targets c.args.i.now.arg)) (rule rules.End (Done (not (c.args.is_last && not (leaves c.args.i.now.op)))) (Done None))
    c.args.h.now c.leads.new.h c.in-Ok-false.field-0 c.in-Ok-false.field-0-test c.in-Ok-false.ensures

pub returns-in-Err-clause-tried : goal.returns-in-Err-clause-tried
returns-in-Err-clause-tried g c =
    rule_err g.H.Hierarchy.step rules.Target (leads c.args.c.now c.args.next (targets c.args.i.now.arg)) (rule rules.End (Done (not (c.args.is_last && not (leaves c.args.i.now.op)))) (Done None))
    c.in-Err.fault c.args.h.now c.leads.new.h c.in-Err.ensures

use Rattle.std.proofs.Common.{map}
use Rattle.jl_verify.specs.Rules.{goes_to_declared, declared_at, leads}
use Rattle.jl_verify.proofs.Comings.{both_err}
use Rattle.jl_verify.proofs.Prefixes.{both_on, both_off}
use Rattle.jl_verify.proofs.rules.switch_leads.Goals as goal

pub returns-in-Ok-true : goal.returns-in-Ok-true
returns-in-Ok-true g c =
    both_on g.H.Hierarchy.step (goes_to_declared c.args.f.now (declared_at c.args.c.now c.args.other)) (leads c.args.c.now c.args.f.now (map (λ case. case.1) c.args.cases.now)) c.args.h.now c.goes_to_declared.new.h c.cases_lead.result c.cases_lead.new.h
    c.in-Ok-true.field-0 c.in-Ok-true.field-0-test c.in-Ok-true.ensures c.cases_lead.ensures

pub returns-in-Ok-false : goal.returns-in-Ok-false
returns-in-Ok-false g c =
    both_off g.H.Hierarchy.step (goes_to_declared c.args.f.now (declared_at c.args.c.now c.args.other)) (leads c.args.c.now c.args.f.now (map (λ case. case.1) c.args.cases.now)) c.args.h.now c.goes_to_declared.new.h
    c.in-Ok-false.field-0 c.in-Ok-false.field-0-test c.in-Ok-false.ensures

pub returns-in-Err : goal.returns-in-Err
returns-in-Err g c =
    both_err g.H.Hierarchy.step (goes_to_declared c.args.f.now (declared_at c.args.c.now c.args.other)) (leads c.args.c.now c.args.f.now (map (λ case. case.1) c.args.cases.now)) c.in-Err.fault c.args.h.now c.goes_to_declared.new.h c.in-Err.ensures

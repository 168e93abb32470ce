use Rattle.std.proofs.Common.{◌+◌, drop, map, arith}
use Rattle.std.specs.Prelude.{pos}
use Rattle.jl_verify.specs.Rules.{leads}
use Rattle.jl_verify.proofs.AskedLists.{places_next, places_done}
use Rattle.jl_verify.proofs.Prefixes.{further, stopped, failed, ended}
use Rattle.jl_verify.proofs.rules.cases_lead.Goals as goal

pub loop-place-preserved : goal.loop-place-preserved
loop-place-preserved g c =
    further g.H.Hierarchy.step (leads c.args.c.now c.args.f.now (map (λ case. case.1) c.args.cases.now)) (leads c.args.c.now c.args.f.now (map (λ case. case.1) (drop c.loop-place.place-index c.args.cases.now))) _
    (leads c.args.c.now c.args.f.now (map (λ case. case.1) (drop (c.loop-place.place-index + 1) c.args.cases.now))) c.args.h.now c.loop-place.h c.goes_to_declared.new.h c.in-Ok-true.field-0
    (places_next c.args.c.now c.args.f.now c.args.cases.now c.loop-place.place-index (pos 0, 0) (omega arith)) c.in-Ok-true.field-0-test c.loop-place.invariant c.in-Ok-true.ensures

pub returns-in-Ok-false : goal.returns-in-Ok-false
returns-in-Ok-false g c =
    stopped g.H.Hierarchy.step (leads c.args.c.now c.args.f.now (map (λ case. case.1) c.args.cases.now)) (leads c.args.c.now c.args.f.now (map (λ case. case.1) (drop c.loop-place.place-index c.args.cases.now))) _
    (leads c.args.c.now c.args.f.now (map (λ case. case.1) (drop (c.loop-place.place-index + 1) c.args.cases.now))) c.args.h.now c.loop-place.h c.goes_to_declared.new.h c.in-Ok-false.field-0
    (places_next c.args.c.now c.args.f.now c.args.cases.now c.loop-place.place-index (pos 0, 0) (omega arith)) c.in-Ok-false.field-0-test c.loop-place.invariant c.in-Ok-false.ensures

pub returns-in-Err : goal.returns-in-Err
returns-in-Err g c =
    failed g.H.Hierarchy.step (leads c.args.c.now c.args.f.now (map (λ case. case.1) c.args.cases.now)) (leads c.args.c.now c.args.f.now (map (λ case. case.1) (drop c.loop-place.place-index c.args.cases.now))) _
    (leads c.args.c.now c.args.f.now (map (λ case. case.1) (drop (c.loop-place.place-index + 1) c.args.cases.now))) c.args.h.now c.loop-place.h c.goes_to_declared.new.h c.in-Err.fault
    (places_next c.args.c.now c.args.f.now c.args.cases.now c.loop-place.place-index (pos 0, 0) (omega arith)) c.loop-place.invariant c.in-Err.ensures

pub returns : goal.returns
returns g c =
    ended g.H.Hierarchy.step (leads c.args.c.now c.args.f.now (map (λ case. case.1) c.args.cases.now)) (leads c.args.c.now c.args.f.now (map (λ case. case.1) (drop c.loop-place.place-index c.args.cases.now))) c.args.h.now c.loop-place.h
    (places_done c.args.c.now c.args.f.now c.args.cases.now c.loop-place.place-index (omega arith)) c.loop-place.invariant

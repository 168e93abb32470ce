use Rattle.std.proofs.Common.{drop, map}
use Rattle.jl_verify.specs.Rules.{leads}
use Rattle.jl_verify.proofs.Prefixes.{SoFar}
use Rattle.jl_verify.proofs.rules.cases_lead.Given as goal

abbrev pub invariant-loop-place : goal.invariant-loop-place
invariant-loop-place g l = SoFar g.H.Hierarchy.step (leads l.c l.f (map (λ case. case.1) l.cases)) (leads l.c l.f (map (λ case. case.1) (drop l.place-index l.cases))) l.initial.h l.h

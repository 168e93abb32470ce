use Rattle.std.proofs.Common.{drop}
use Rattle.jl_verify.specs.Rules.{handlers_fit}
use Rattle.jl_verify.proofs.Prefixes.{SoFar}
use Rattle.jl_verify.proofs.handling.handlers_fit.Given as goal

abbrev pub invariant-loop-handler : goal.invariant-loop-handler
invariant-loop-handler g l = SoFar g.H.Hierarchy.step (handlers_fit l.c l.f l.i l.handlers) (handlers_fit l.c l.f l.i (drop l.handler-index l.handlers)) l.initial.h l.h

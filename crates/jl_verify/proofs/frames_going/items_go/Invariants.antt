use Rattle.std.proofs.Common.{drop}
use Rattle.jl_verify.specs.Rules.{items_go}
use Rattle.jl_verify.proofs.Prefixes.{SoFar}
use Rattle.jl_verify.proofs.frames_going.items_go.Given as goal

abbrev pub invariant-loop-at : goal.invariant-loop-at
invariant-loop-at g l = SoFar g.H.Hierarchy.step (items_go l.from l.to) (items_go (drop l.at l.from) (drop l.at l.to)) l.initial.h l.h

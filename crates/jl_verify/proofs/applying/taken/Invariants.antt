use Rattle.std.proofs.Common.{Bool, Result, drop}
use Rattle.jl_verify.specs.declared.fault.VerifyFault.{VerifyFault}
use Rattle.jl_verify.specs.Comes.{Comes}
use Rattle.jl_verify.specs.Rows.{taken}
use Rattle.jl_verify.proofs.applying.taken.Given as goal

-- what the slots from the one at hand on come to all come to
abbrev pub invariant-loop-depth : goal.invariant-loop-depth
invariant-loop-depth g l = (result : Result Bool VerifyFault) (new : g.row.H.Denot)
    → Comes {S = g.row.H.Denot} {X = Bool} g.H.Hierarchy.step (taken l.c (drop l.depth l.wanted) (drop l.depth l.f.stack)) l.h result new
    → Comes {S = g.row.H.Denot} {X = Bool} g.H.Hierarchy.step (taken l.c l.wanted l.f.stack) l.initial.h result new

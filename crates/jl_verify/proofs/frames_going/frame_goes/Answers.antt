use Rattle.jl_verify.proofs.AskedLists.{compared, not_compared}
use Rattle.jl_verify.proofs.frames_going.frame_goes.Goals as goal

pub returns-then-is_comparable : goal.returns-then-is_comparable
returns-then-is_comparable g c =
    compared g.H.Hierarchy.step c.args.from.now c.args.to.now c.args.h.now c.is_comparable.result c.is_comparable.ensures c.slots_go.result c.slots_go.new.h c.if-is_comparable.true c.slots_go.ensures

pub returns-else-is_comparable : goal.returns-else-is_comparable
returns-else-is_comparable g c = not_compared g.H.Hierarchy.step c.args.from.now c.args.to.now c.args.h.now c.is_comparable.result c.is_comparable.ensures c.if-is_comparable.false

use Rattle.std.proofs.Common.{[], ◌∷◌}
use Rattle.jl_verify.proofs.AskedLists.{compared, not_compared}
use Rattle.jl_verify.proofs.handling.entered_goes.Goals as goal

pub returns-then-is_enterable : goal.returns-then-is_enterable
returns-then-is_enterable g c =
    compared g.H.Hierarchy.step (record c.args.f.now { stack = c.args.item.now ∷ [] }) c.args.to.now c.args.h.now c.is_enterable.result c.is_enterable.ensures c.entered_slots_go.result c.entered_slots_go.new.h c.if-is_enterable.true c.entered_slots_go.ensures

pub returns-else-is_enterable : goal.returns-else-is_enterable
returns-else-is_enterable g c = not_compared g.H.Hierarchy.step (record c.args.f.now { stack = c.args.item.now ∷ [] }) c.args.to.now c.args.h.now c.is_enterable.result c.is_enterable.ensures c.if-is_enterable.false

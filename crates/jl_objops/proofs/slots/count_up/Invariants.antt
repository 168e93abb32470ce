use Rattle.std.proofs.Common.{◌≡◌, ◌+◌, ◌*◌, ◌≤◌, map, sum}
use Rattle.jl_loads.specs.Worlds.{line_by}
use Rattle.jl_objops.specs.Fields.{own_count}
use Rattle.jl_objops.proofs.slots.count_up.Given as goal

abbrev pub invariant-loop-next : goal.invariant-loop-next
invariant-loop-next l = (l.count + sum (map (own_count l.world) (line_by l.left l.world l.next)) ≡ sum (map (own_count l.world) (line_by l.most l.world l.fn.c))) × (l.count + l.left * 65540 ≤ l.most * 65540)

abbrev pub decreases-loop-next : goal.decreases-loop-next
decreases-loop-next l = l.left

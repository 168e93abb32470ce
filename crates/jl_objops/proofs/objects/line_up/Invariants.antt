use Rattle.std.proofs.Common.{◌≡◌, ◌++◌}
use Rattle.jl_loads.specs.Worlds.{line_by, line_of}
use Rattle.jl_objops.proofs.objects.line_up.Given as goal

abbrev pub invariant-loop-next : goal.invariant-loop-next
invariant-loop-next l = l.line.items ++ line_by l.left l.world l.next ≡ line_of l.world l.fn.c

abbrev pub decreases-loop-next : goal.decreases-loop-next
decreases-loop-next l = l.left

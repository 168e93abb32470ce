use Rattle.std.proofs.Common.{◌≡◌}
use Rattle.jl_loads.specs.Worlds.{line_by, line_of}
use Rattle.jl_link.specs.Members.{first_given, wanted}
use Rattle.jl_link.specs.Selection.{overriding_at}
use Rattle.jl_link.proofs.overriding.overriding.Given as goal

abbrev pub invariant-loop-at : goal.invariant-loop-at
invariant-loop-at l = first_given (overriding_at l.loads (wanted l.name l.desc) l.a) (line_by l.most l.loads l.at) ≡ first_given (overriding_at l.loads (wanted l.name l.desc) l.a) (line_of l.loads l.fn.c)

abbrev pub decreases-loop-at : goal.decreases-loop-at
decreases-loop-at l = l.most

use Rattle.std.proofs.Common.{◌≡◌}
use Rattle.jl_loads.specs.Worlds.{is_among, is_subclass, line_by}
use Rattle.jl_loads.proofs.loads.Loads.is_subclass.Given as goal

abbrev pub invariant-loop-at : goal.invariant-loop-at
invariant-loop-at l = is_among l.d (line_by l.most l.self l.at) ≡ is_subclass l.self l.fn.c l.d

abbrev pub decreases-loop-at : goal.decreases-loop-at
decreases-loop-at l = l.most

use Rattle.std.proofs.Common.{take}
use Rattle.jl_loaders.specs.Joins.{AreJoins}
use Rattle.jl_loaders.proofs.joins.joins_of.Given as goal

abbrev pub invariant-loop-constraint : goal.invariant-loop-constraint
invariant-loop-constraint l = AreJoins l.count (take l.constraint-index l.constraints) l.name l.rows.items

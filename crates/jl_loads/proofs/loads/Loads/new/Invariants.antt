use Rattle.std.proofs.Common.{◌≡◌}
use Rattle.jl_loads.specs.Beginning.{begun, begun_by}
use Rattle.jl_loads.specs.Starting.{MayFollow}
use Rattle.jl_loads.proofs.loads.Loads.new.Given as goal

abbrev pub invariant-loop-class : goal.invariant-loop-class
invariant-loop-class l = (begun_by l.world l.class-iterator.rest.items ≡ begun l.fn.layers l.fn.base) × MayFollow l.world l.class-iterator.rest.items

use Rattle.std.proofs.Common.{◌≡◌, take}
use Rattle.std.specs.List.{flat_map}
use Rattle.jl_objops.specs.Fields.{own_kinds}
use Rattle.jl_objops.proofs.objects.kinds_of.Given as goal

abbrev pub invariant-loop-k : goal.invariant-loop-k
invariant-loop-k l = l.kinds.items ≡ flat_map (own_kinds l.world) (take l.k-index l.k-items)

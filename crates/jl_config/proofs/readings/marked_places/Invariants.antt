use Rattle.std.proofs.Common.{◌≡◌, take, filter_map}
use Rattle.jl_config.specs.ReadRows.{marked_place}
use Rattle.jl_config.proofs.readings.marked_places.Given as goal

abbrev pub invariant-loop-placed : goal.invariant-loop-placed
invariant-loop-placed l = l.places.items ≡ filter_map (marked_place l.marks) (take l.placed-index l.order)

use Rattle.std.proofs.Common.{◌≡◌, take, filter_map}
use Rattle.jl_config.specs.ReadRows.{passed_place}
use Rattle.jl_config.proofs.readings.places_passed_on.Given as goal

abbrev pub invariant-loop-entry : goal.invariant-loop-entry
invariant-loop-entry l = l.places.items ≡ filter_map (passed_place l.scene l.marks l.candidate) (take l.entry-index l.entry-items)

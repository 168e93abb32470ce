use Rattle.std.proofs.Common.{◌≡◌, take, filter_map}
use Rattle.jl_prim.specs.declared.declaration.Requires.{Requires}
use Rattle.jl_config.specs.ReadRows.{meant_place}
use Rattle.jl_config.proofs.readings.places_required.Given as goal

abbrev pub invariant-loop-entry : goal.invariant-loop-entry
invariant-loop-entry l = l.places.items ≡ filter_map (λ (r : Requires). meant_place l.scene l.marks l.candidate r.name) (take l.entry-index l.entry-items)

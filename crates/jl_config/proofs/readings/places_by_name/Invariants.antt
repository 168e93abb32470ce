use Rattle.jl_config.proofs.ReadOrders.{ArePlaced}
use Rattle.jl_config.proofs.readings.places_by_name.Given as goal

abbrev pub invariant-loop-place : goal.invariant-loop-place
invariant-loop-place l = ArePlaced l.scene l.place l.order.items

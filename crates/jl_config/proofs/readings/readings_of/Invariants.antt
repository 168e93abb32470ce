use Rattle.jl_config.proofs.ReadOrders.{AreRead}
use Rattle.jl_config.proofs.readings.readings_of.Given as goal

abbrev pub invariant-loop-place : goal.invariant-loop-place
invariant-loop-place l = AreRead l.scene l.members.places.items l.place-index l.readings.items

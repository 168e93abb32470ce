use Rattle.std.proofs.Common.{◌≡◌, replicate}
use Rattle.jl_loads.specs.declared.slot.PoolSlot.TheVariants.{Empty}
use Rattle.jl_loads.proofs.slot.empty_slots.Given as goal

abbrev pub invariant-loop : goal.invariant-loop
invariant-loop l = l.slots.items ≡ replicate l.counter Empty

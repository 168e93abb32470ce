use Rattle.std.proofs.Common.{◌≡◌, length}
use Rattle.jl_verify.specs.Rows.{onto}
use Rattle.jl_verify.proofs.moving.put_slots.Given as goal

abbrev pub invariant-loop-item : goal.invariant-loop-item
invariant-loop-item l = onto l.slots.items l.f ≡ onto l.initial.slots.items l.initial.f

abbrev pub decreases-loop-item : goal.decreases-loop-item
decreases-loop-item l = length l.slots.items

use Rattle.std.proofs.Common.{◌≡◌, ◌-◌, ◌+◌, ℕ, vec_len}
use Rattle.jl_heap.specs.Placing.{kept_at}
use Rattle.jl_heap.proofs.statics.reach.Given as goal

abbrev pub invariant-loop-places : goal.invariant-loop-places
invariant-loop-places l = (n : ℕ) → kept_at l.places.items n ≡ kept_at l.fn.places.items n

abbrev pub decreases-loop-places : goal.decreases-loop-places
decreases-loop-places l = l.number + 1 - vec_len l.places

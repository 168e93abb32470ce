use Rattle.std.proofs.Common.{◌≡◌, ◌++◌, map, drop}
use Rattle.jl_verify.specs.Moves.{item_at}
use Rattle.jl_verify.proofs.moving.moved.Given as goal

abbrev pub invariant-loop-slot : goal.invariant-loop-slot
invariant-loop-slot l = l.all.items ++ map (item_at l.f.stack) (drop l.slot-index l.slots) ≡ map (item_at l.f.stack) l.slots

use Rattle.std.proofs.Common.{◌≡◌, take}
use Rattle.jl_verify.specs.Frames.{slots}
use Rattle.jl_verify.proofs.declaring.slots.Given as goal

abbrev pub invariant-loop-item : goal.invariant-loop-item
invariant-loop-item l = l.all.items ≡ slots (take l.item-index l.items)

use Rattle.std.proofs.Common.{◌≡◌, take}
use Rattle.jl_verify.proofs.declaring.copies.Given as goal

abbrev pub invariant-loop-item : goal.invariant-loop-item
invariant-loop-item l = l.all.items ≡ take l.item-index l.items

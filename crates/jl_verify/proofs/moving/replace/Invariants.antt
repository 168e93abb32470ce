use Rattle.std.proofs.Common.{◌≡◌, ◌++◌, map, take, drop}
use Rattle.jl_verify.specs.Rows.{in_place_of}
use Rattle.jl_verify.proofs.moving.replace.Given as goal

abbrev pub invariant-loop-item : goal.invariant-loop-item
invariant-loop-item l = l.item-items ≡ map (in_place_of l.old l.new) (take l.item-index l.initial.item-items) ++ drop l.item-index l.initial.item-items

use Rattle.std.proofs.Common.{◌≡◌, map, take}
use Rattle.jl_verify.specs.Declaring.{item_of}
use Rattle.jl_verify.proofs.methods.items_of.Given as goal

abbrev pub invariant-loop-found : goal.invariant-loop-found
invariant-loop-found l = l.items.items ≡ map (item_of l.desc) (take l.found-index l.types)

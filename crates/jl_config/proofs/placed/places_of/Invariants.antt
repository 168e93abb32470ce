use Rattle.std.proofs.Common.{◌≡◌, take, map}
use Rattle.jl_config.specs.declared.placed.Placed.{Placed}
use Rattle.jl_config.proofs.placed.places_of.Given as goal

abbrev pub invariant-loop-x : goal.invariant-loop-x
invariant-loop-x l = l.places.items ≡ map (λ (x : Placed). x.place) (take l.x-index l.placed)

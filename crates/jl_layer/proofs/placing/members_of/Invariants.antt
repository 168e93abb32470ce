use Rattle.std.proofs.Common.{◌≡◌, take}
use Rattle.jl_layer.specs.Defining.{members}
use Rattle.jl_layer.proofs.placing.members_of.Given as goal

abbrev pub invariant-loop-at : goal.invariant-loop-at
invariant-loop-at l = l.made.items ≡ members l.mode l.layer l.first (take l.at l.observed)

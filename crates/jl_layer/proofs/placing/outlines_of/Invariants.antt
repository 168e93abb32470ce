use Rattle.std.proofs.Common.{◌≡◌, map, take}
use Rattle.jl_layer.specs.Defining.{declared_module}
use Rattle.jl_layer.specs.Placing.{outlined}
use Rattle.jl_layer.proofs.placing.outlines_of.Given as goal

abbrev pub invariant-loop-member : goal.invariant-loop-member
invariant-loop-member l = map outlined l.outlines.items ≡ map declared_module (take l.member-index l.members)

use Rattle.std.proofs.Common.{◌≡◌}
use Rattle.jl_layer.specs.Defining.{module_numbers}
use Rattle.jl_layer.proofs.placing.numbers_from.Given as goal

abbrev pub invariant-loop-at : goal.invariant-loop-at
invariant-loop-at l = l.numbers.items ≡ module_numbers l.first l.at

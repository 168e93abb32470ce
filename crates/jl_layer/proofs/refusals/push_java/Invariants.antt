use Rattle.std.proofs.Common.{◌≡◌, ◌++◌, take}
use Rattle.std.specs.List.{filter}
use Rattle.jl_layer.specs.Refusals.{is_java}
use Rattle.jl_layer.proofs.refusals.push_java.Given as goal

abbrev pub invariant-loop-name : goal.invariant-loop-name
invariant-loop-name l = l.found.items ≡ l.fn.found.items ++ filter is_java (take l.name-index l.packages)

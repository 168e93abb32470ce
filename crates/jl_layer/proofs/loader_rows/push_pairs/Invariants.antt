use Rattle.std.proofs.Common.{◌≡◌, ◌++◌, take}
use Rattle.jl_layer.specs.Defining.{with_module}
use Rattle.jl_layer.proofs.loader_rows.push_pairs.Given as goal

abbrev pub invariant-loop-name : goal.invariant-loop-name
invariant-loop-name l = l.pairs ≡ l.fn.pairs ++ with_module l.m (take l.name-index l.packages)

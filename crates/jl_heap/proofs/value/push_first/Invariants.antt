use Rattle.std.proofs.Common.{◌≡◌, ◌++◌, map, take}
use Rattle.jl_heap.specs.Values as words
use Rattle.jl_heap.proofs.value.push_first.Given as goal

abbrev pub invariant-loop-kind : goal.invariant-loop-kind
invariant-loop-kind l = l.values.items ≡ l.fn.values.items ++ map words.first_value (take l.kind-index l.kinds)

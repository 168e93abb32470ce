use Rattle.std.proofs.Common.{◌≡◌, ◌++◌}
use Rattle.jl_launch.proofs.words.joined.Given as goal

abbrev pub invariant-loop-name : goal.invariant-loop-name
invariant-loop-name l = l.all.items ++ l.name-iterator.rest.items ≡ l.fn.roots ++ l.fn.add

use Rattle.std.proofs.Common.{◌≡◌, ◌++◌, take, map}
use Rattle.jl_layer.specs.Meaning.{opening}
use Rattle.jl_layer.proofs.stating.push_opens_to.Given as goal

abbrev pub invariant-loop-reach : goal.invariant-loop-reach
invariant-loop-reach l = l.statements.items ≡ l.fn.statements.items ++ map (opening l.m l.name) (take l.reach-index l.reaches)

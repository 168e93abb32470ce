use Rattle.std.proofs.Common.{◌≡◌, ◌++◌, take, map}
use Rattle.jl_layer.specs.Meaning.{export}
use Rattle.jl_layer.proofs.stating.push_exports_to.Given as goal

abbrev pub invariant-loop-reach : goal.invariant-loop-reach
invariant-loop-reach l = l.statements.items ≡ l.fn.statements.items ++ map (export l.m l.name) (take l.reach-index l.reaches)

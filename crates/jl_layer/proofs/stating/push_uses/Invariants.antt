use Rattle.std.proofs.Common.{◌≡◌, ◌++◌, take, map}
use Rattle.jl_layer.specs.Meaning.{use_of}
use Rattle.jl_layer.proofs.stating.push_uses.Given as goal

abbrev pub invariant-loop-service : goal.invariant-loop-service
invariant-loop-service l = l.statements.items ≡ l.fn.statements.items ++ map (use_of l.m) (take l.service-index l.services)

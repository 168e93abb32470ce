use Rattle.std.proofs.Common.{◌-◌}
use Rattle.jl_loads.specs.Worlds.{methods_before}
use Rattle.jl_loads.proofs.Counting.{AreAround}
use Rattle.jl_loads.proofs.loads.Loads.class_of_method.Given as goal

abbrev pub invariant-loop-high : goal.invariant-loop-high
invariant-loop-high l = AreAround (methods_before l.self) l.self l.m.0 l.low l.high

abbrev pub decreases-loop-high : goal.decreases-loop-high
decreases-loop-high l = l.high - l.low

use Rattle.std.proofs.Common.{arith}
use Rattle.jl_loads.proofs.Counting.{past_methods}
use Rattle.jl_loads.proofs.loads.Loads.class_of_method.Goals as goal

pub overflow_add-high : goal.overflow_add-high
overflow_add-high c = let few = c.is_sound.ensures.few in omega (arith, few, c.classes-high.ensures)

pub returns-clause-to : goal.returns-clause-to
returns-clause-to c = past_methods c.args.self.now c.args.m.0 c.loop-high.low c.loop-high.high (omega (arith, c.loop-high-test.false)) c.loop-high.invariant

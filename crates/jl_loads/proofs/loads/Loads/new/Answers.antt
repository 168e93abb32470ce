use Rattle.std.proofs.Common.{arith, rules}
use Rattle.jl_loads.proofs.Begun.{begun_done, begun_step}
use Rattle.jl_loads.proofs.Starting.{may_begin_first, may_go_on}
use Rattle.jl_loads.proofs.loads.Loads.new.Goals as goal

pub begin-requires : goal.begin-requires
begin-requires c = may_begin_first c.loop-class.world c.in-Some.class c.loop-class.class-iterator.rest.items c.next.new.self.rest.items c.in-Some.ensures.steps.0 c.loop-class.invariant.1

pub loop-class-preserved : goal.loop-class-preserved
loop-class-preserved c = (
  begun_step c.loop-class.world c.begin.new.self _ c.in-Some.class c.loop-class.class-iterator.rest.items c.next.new.self.rest.items c.in-Some.ensures.steps.0 (search rules) c.loop-class.invariant.0,
  may_go_on c.loop-class.world c.begin.new.self c.in-Some.class c.loop-class.class-iterator.rest.items c.next.new.self.rest.items c.in-Some.ensures.steps.0 (search rules) c.loop-class.invariant.1,
)

pub returns : goal.returns
returns c =
    begun_done c.loop-class.world _ c.loop-class.class-iterator.rest.items (omega (arith, c.in-None.ensures.steps.0, c.loop-class.class-iterator.rest.ok.0)) c.loop-class.invariant.0

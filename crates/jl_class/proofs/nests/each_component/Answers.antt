use Rattle.std.proofs.Common.{◌∙◌}
use Rattle.std.proofs.lemmas.Result.{err_from_is_err_and}
use Rattle.jl_reading.proofs.Each.{steps_done}
use Rattle.jl_classfile.proofs.Loops.{step_more, step_ends}
use Rattle.jl_class.specs.Reading.{component_at, each_component_at}
use Rattle.jl_class.specs.Faults.{told}
use Rattle.jl_class.proofs.nests.each_component.Goals as goal

pub returns-in_err-after : goal.returns-in_err-after
unfolding each_component_at
returns-in_err-after c =
    let p = err_from_is_err_and c.from_residual.result c.from_residual.ensures.1 in
    rw (p.1, p.2) (step_ends told c.in_err-after.field-0.0 (λ bytes done. component_at c.args.pool.now c.args.attribute bytes) c.args.place.bytes.now c.loop.next.bytes.now tt c.args.count c.loop.counter c.loop.next.at _
    c.loop.invariant.bytes c.loop-test.true c.in_err-after.ensures c.loop.invariant.reads)

pub loop-preserved : goal.loop-preserved
loop-preserved c = record {
  bytes = c.in_ok-after.ensures.0 ∙ c.loop.invariant.bytes;
  reads = step_more (λ bytes done. component_at c.args.pool.now c.args.attribute bytes) c.args.place.bytes.now c.loop.next.bytes.now tt c.args.count c.loop.counter c.loop.next.at tt c.in_ok-after.after.at _
      c.loop.invariant.bytes c.loop-test.true c.in_ok-after.ensures.1 c.loop.invariant.reads;
}

pub returns : goal.returns
unfolding each_component_at
returns c = (c.loop.invariant.bytes, steps_done (λ done. component_at c.args.pool.now c.args.attribute c.args.place.bytes.now) tt c.args.count c.loop.counter c.loop.next.at _ c.loop-test.false c.loop.invariant.reads)

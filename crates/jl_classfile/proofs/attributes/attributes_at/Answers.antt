use Rattle.std.proofs.Common.{◌∙◌}
use Rattle.std.proofs.lemmas.Result.{err_from_is_err_and}
use Rattle.jl_reading.proofs.Each.{steps_done}
use Rattle.jl_classfile.specs.Attributes.{attribute_at}
use Rattle.jl_classfile.proofs.Loops.{step_more, step_ends}
use Rattle.jl_classfile.proofs.attributes.attributes_at.Goals as goal

pub returns-in_err-read : goal.returns-in_err-read
returns-in_err-read g c =
    let p = err_from_is_err_and c.from_residual.result c.from_residual.ensures.1 in
    rw (p.1, p.2) (step_ends g.F.Fault.told c.in_err-read.field-0.0 (attribute_at (g.R.AttributeReader.reader c.args.reader.now) c.args.pool.now) c.args.place.bytes.now c.loop.next.bytes.now c.loop.done.items c.args.count c.loop.counter c.loop.next.at _
    c.loop.invariant.bytes c.loop-test.true c.in_err-read.ensures c.loop.invariant.reads)

pub loop-preserved : goal.loop-preserved
loop-preserved g c = record {
  bytes = c.in_ok-read.ensures.0 ∙ c.loop.invariant.bytes;
  reads = step_more (attribute_at (g.R.AttributeReader.reader c.args.reader.now) c.args.pool.now) c.args.place.bytes.now c.loop.next.bytes.now c.loop.done.items c.args.count c.loop.counter c.loop.next.at c.in_ok-read.read.items c.in_ok-read.after.at _
      c.loop.invariant.bytes c.loop-test.true c.in_ok-read.ensures.1 c.loop.invariant.reads;
}

pub returns : goal.returns
returns g c = (c.loop.invariant.bytes, steps_done (attribute_at (g.R.AttributeReader.reader c.args.reader.now) c.args.pool.now c.args.place.bytes.now) c.loop.done.items c.args.count c.loop.counter c.loop.next.at _ c.loop-test.false c.loop.invariant.reads)

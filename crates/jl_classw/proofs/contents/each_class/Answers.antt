use Rattle.std.proofs.Common.{◌∙◌}
use Rattle.std.proofs.lemmas.Result.{err_from_is_err_and}
use Rattle.jl_reading.proofs.Each.{each_done}
use Rattle.jl_classfile.proofs.Loops.{unit_more, unit_ends}
use Rattle.jl_class.specs.Reading.{named_in}
use Rattle.jl_pool.specs.Pool.{class_named}
use Rattle.jl_class.specs.Faults.{told}
use Rattle.jl_classw.proofs.contents.each_class.Goals as goal

pub returns-in_err-name : goal.returns-in_err-name
returns-in_err-name c =
    let p = err_from_is_err_and c.from_residual.result c.from_residual.ensures.1 in
    rw (p.1, p.2) (unit_ends told c.in_err-name.field-0.0 (λ bytes done. named_in 0 (class_named c.args.pool.now) bytes) c.args.place.bytes.now c.loop.next.bytes.now c.loop.done.items c.args.count c.loop.counter c.loop.next.at _
    c.loop.invariant.bytes c.loop-test.true c.in_err-name.ensures c.loop.invariant.reads)

pub loop-preserved : goal.loop-preserved
loop-preserved c = record {
  bytes = c.in_ok-name.ensures.0 ∙ c.loop.invariant.bytes;
  reads = rw c.in_ok-push.ensures.items (unit_more (λ bytes done. named_in 0 (class_named c.args.pool.now) bytes) c.args.place.bytes.now c.loop.next.bytes.now c.loop.done.items c.args.count c.loop.counter c.loop.next.at c.in_ok-name.name c.in_ok-name.after.at _
      c.loop.invariant.bytes c.loop-test.true c.in_ok-name.ensures.1 c.loop.invariant.reads);
}

pub returns : goal.returns
returns c = (c.loop.invariant.bytes, rw c.from_vec.ensures (each_done (λ done. named_in 0 (class_named c.args.pool.now) c.args.place.bytes.now) c.loop.done.items c.args.count c.loop.counter c.loop.next.at _ c.loop-test.false c.loop.invariant.reads))

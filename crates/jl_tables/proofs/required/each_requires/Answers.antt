use Rattle.std.proofs.Common.{◌∙◌}
use Rattle.std.proofs.lemmas.Result.{err_from_is_err_and}
use Rattle.jl_reading.proofs.Each.{each_done}
use Rattle.jl_classfile.proofs.Loops.{unit_more, unit_ends}
use Rattle.jl_tables.specs.Faults.{told}
use Rattle.jl_tables.specs.Reading.{requires_at}
use Rattle.jl_tables.proofs.required.each_requires.Goals as goal

pub returns-in_err-entry : goal.returns-in_err-entry
returns-in_err-entry c =
    let p = err_from_is_err_and c.from_residual.result c.from_residual.ensures.1 in
    rw (p.1, p.2) (unit_ends told c.in_err-entry.field-0.0 (λ bytes. requires_at c.args.pool.now bytes) c.args.place.bytes.now c.loop.next.bytes.now c.loop.done c.args.count c.loop.counter c.loop.next.at _
    c.loop.invariant.bytes c.loop-test.true c.in_err-entry.ensures.exact c.loop.invariant.reads)

pub loop-preserved : goal.loop-preserved
loop-preserved c = record {
  bytes = c.in_ok-entry.ensures.exact.0 ∙ c.loop.invariant.bytes;
  reads = rw c.in_ok-done.ensures (unit_more (λ bytes. requires_at c.args.pool.now bytes) c.args.place.bytes.now c.loop.next.bytes.now c.loop.done c.args.count c.loop.counter c.loop.next.at c.in_ok-entry.entry c.in_ok-entry.after.at _
      c.loop.invariant.bytes c.loop-test.true c.in_ok-entry.ensures.exact.1 c.loop.invariant.reads);
}

pub returns : goal.returns
returns c = (c.loop.invariant.bytes, rw c.into_entries.ensures (each_done (requires_at c.args.pool.now c.args.place.bytes.now) c.loop.done c.args.count c.loop.counter c.loop.next.at _ c.loop-test.false c.loop.invariant.reads))

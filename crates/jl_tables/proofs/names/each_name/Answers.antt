use Rattle.std.proofs.Common.{Ok, sym, ap, ◌∙◌}
use Rattle.std.proofs.lemmas.Result.{err_from_is_err_and}
use Rattle.jl_reading.proofs.Each.{each_done}
use Rattle.jl_reading.proofs.Steps.{ok_is}
use Rattle.jl_classfile.proofs.Loops.{unit_more, unit_ends}
use Rattle.jl_tables.specs.Faults.{told}
use Rattle.jl_tables.specs.Reading.{new_name_at}
use Rattle.jl_tables.specs.Kinds.{naming}
use Rattle.jl_tables.proofs.names.each_name.Goals as goal

pub returns-in_err-name : goal.returns-in_err-name
returns-in_err-name c =
    let p = err_from_is_err_and c.from_residual.result c.from_residual.ensures.1 in
    rw (p.1, p.2) (unit_ends told c.in_err-name.field-0.0 (λ bytes. new_name_at c.args.table.now (naming c.args.kind) c.args.pool.now bytes) c.args.place.bytes.now c.loop.next.bytes.now c.loop.done c.args.count c.loop.counter c.loop.next.at _
    c.loop.invariant.bytes c.loop-test.true c.in_err-name.ensures.exact c.loop.invariant.reads)

pub loop-preserved : goal.loop-preserved
loop-preserved c = record {
  bytes = c.in_ok-name.ensures.exact.0 ∙ c.loop.invariant.bytes;
  reads = rw c.in_ok-done.ensures (unit_more (λ bytes. new_name_at c.args.table.now (naming c.args.kind) c.args.pool.now bytes) c.args.place.bytes.now c.loop.next.bytes.now c.loop.done c.args.count c.loop.counter c.loop.next.at c.in_ok-name.name c.in_ok-name.after.at _
      c.loop.invariant.bytes c.loop-test.true c.in_ok-name.ensures.exact.1 c.loop.invariant.reads);
}

pub returns : goal.returns
returns c =
    let same = sym c.as_slice.ensures ∙ ok_is _ _ c.in_ok-copied_all.ensures in (
      c.loop.invariant.bytes,
      each_done (new_name_at c.args.table.now (naming c.args.kind) c.args.pool.now c.args.place.bytes.now) c.loop.done c.args.count c.loop.counter c.loop.next.at _ c.loop-test.false c.loop.invariant.reads
          ∙ ap (λ names. Ok (names, c.loop.next.at)) same,
    )

use Rattle.std.proofs.lemmas.Result.{err_from_is_err_and}
use Rattle.jl_reading.proofs.Each.{each_more, each_ends, each_done}
use Rattle.jl_frames.specs.Reading.{told, item_at}
use Rattle.jl_frames.proofs.reading.items_at.Goals as goal

pub returns-in_err-item-clause-exact : goal.returns-in_err-item-clause-exact
returns-in_err-item-clause-exact c =
    let p = err_from_is_err_and c.from_residual.result c.from_residual.ensures.1 in
    rw (p.1, p.2) (each_ends told c.in_err-item.field-0.0 (item_at c.args.bytes.now) c.loop.items.items c.args.count c.loop.counter c.loop.next _ c.loop-test.true (c.in_err-item.ensures.exact c.loop.items.items) c.loop.invariant.reads)

pub loop-preserved : goal.loop-preserved
loop-preserved c = record {
  within = c.in_ok-item.ensures.within;
  reads = rw c.in_ok-push.ensures.items (each_more (item_at c.args.bytes.now) c.loop.items.items c.args.count c.loop.counter c.loop.next c.in_ok-item.item c.in_ok-item.after _ c.loop-test.true (c.in_ok-item.ensures.exact c.loop.items.items) c.loop.invariant.reads);
}

pub returns-clause-exact : goal.returns-clause-exact
returns-clause-exact c = each_done (item_at c.args.bytes.now) c.loop.items.items c.args.count c.loop.counter c.loop.next _ c.loop-test.false c.loop.invariant.reads

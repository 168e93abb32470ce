use Rattle.std.proofs.Common.{◌≡◌, ◌++◌, ◌∷◌, [], arith}
use Rattle.std.proofs.lemmas.List.{length-append}
use Rattle.std.proofs.lemmas.Result.{err_from_is_err_and}
use Rattle.jl_reading.proofs.Each.{each_more, each_ends, each_done}
use Rattle.jl_pool.specs.Reading.{told, entry_at}
use Rattle.jl_pool.proofs.reading.entries_at.Goals as goal

pub returns-in_err-entry-clause-exact : goal.returns-in_err-entry-clause-exact
returns-in_err-entry-clause-exact c =
    let p = err_from_is_err_and c.from_residual-in_err-entry.result c.from_residual-in_err-entry.ensures.1 in
    rw (p.1, p.2) (each_ends told c.in_err-entry.field-0.0 (entry_at c.args.count c.args.bytes.now) c.loop-index.entries.items c.args.count c.loop-index.index c.loop-index.next _ c.loop-index-test.true (rw c.deref.ensures.value at c.in_err-entry.ensures.exact) c.loop-index.invariant.reads)

pub loop-index-preserved : goal.loop-index-preserved
loop-index-preserved c =
    let e : c.push-in-loop-index.new.self.items ≡ c.loop-index.entries.items ++ c.in_ok-entry.entry ∷ [] = c.in_ok-push-2.ensures.items in
    record {
      within = c.in_ok-entry.ensures.within;
      behind = rw e (omega (arith, length-append c.loop-index.entries.items (c.in_ok-entry.entry ∷ []), c.loop-index.invariant.behind));
      few = omega (arith, c.loop-index-test.true, c.ranges.count.fits);
      reads = rw e (each_more (entry_at c.args.count c.args.bytes.now) c.loop-index.entries.items c.args.count c.loop-index.index c.loop-index.next c.in_ok-entry.entry c.in_ok-entry.after _ c.loop-index-test.true (rw c.deref.ensures.value at c.in_ok-entry.ensures.exact) c.loop-index.invariant.reads);
    }

pub returns-clause-exact : goal.returns-clause-exact
returns-clause-exact c = each_done (entry_at c.args.count c.args.bytes.now) c.loop-index.entries.items c.args.count c.loop-index.index c.loop-index.next _ c.loop-index-test.false c.loop-index.invariant.reads

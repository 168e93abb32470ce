use Rattle.std.proofs.Common.{map, refl, [], sym, ◌∙◌, arith, ap, subst}
use Rattle.std.proofs.lemmas.Result.{err_from_is_err_and}
use Rattle.jl_finder.specs.Observed.{scan_entries, name_of}
use Rattle.jl_finder.specs.Scanning.{tally_of}
use Rattle.jl_finder.specs.Asking.{place_in, faults_with, reads_of_entry, reads_of_entries}
use Rattle.jl_finder.proofs.Asking.{asks_next, asked_next, asks_some, asked_whole, starts_asking}
use Rattle.jl_finder.proofs.Scans.{entry_fails, entry_ends, entry_steps, entries_over}
use Rattle.jl_finder.proofs.UntilFault.{AsksBefore, before_all, ends_whole, entry_ends_reads, entry_fault, found_fault, entry_reads_on, entries_read}
use Rattle.jl_finder.proofs.directory.scan_directory.Goals as goal

pub returns-in_err-found-clause-gives : goal.returns-in_err-found-clause-gives
returns-in_err-found-clause-gives g c = λ files e.
    let p = err_from_is_err_and c.from_residual.result c.from_residual.ensures.1 in
    rw (p.1, p.2) (entry_fails files c.args.dir.now c.args.entries.now c.loop-entry.entry-index c.entry-item.result c.loop-entry.kept.modules.items (tally_of c.loop-entry.so_far) c.in_err-found.field-0.0 (scan_entries files c.args.dir.now c.args.entries.now [] (tally_of c.args.counts)) c.loop-entry-test.true c.entry-item.is
    (c.in_err-found.ensures.gives files (c.loop-entry.invariant.same_files ∙ e)) (c.loop-entry.invariant.gives files e))

pub returns-in_err-kept-clause-gives : goal.returns-in_err-kept-clause-gives
returns-in_err-kept-clause-gives g c = λ files e.
    let p = err_from_is_err_and c.from_residual-in_err-kept.result c.from_residual-in_err-kept.ensures.1 in
    rw (p.1, p.2) (entry_ends files c.args.dir.now c.args.entries.now c.loop-entry.entry-index c.entry-item.result c.loop-entry.kept.modules.items (tally_of c.loop-entry.so_far) _ c.in_err-kept.field-0.0 (scan_entries files c.args.dir.now c.args.entries.now [] (tally_of c.args.counts)) c.loop-entry-test.true c.entry-item.is
    (c.in_ok-found.ensures.gives files (c.loop-entry.invariant.same_files ∙ e)) (c.in_err-kept.ensures.gives (tally_of c.in_ok-found.after) c.loop-entry.invariant.names) (c.loop-entry.invariant.gives files e))

pub loop-entry-preserved : goal.loop-entry-preserved
loop-entry-preserved g c = record {
  same_files = c.scan_entry.ensures.same_files ∙ c.loop-entry.invariant.same_files;
  counts = omega (arith, c.scan_entry.ensures.counts, c.loop-entry.invariant.counts);
  asked = λ files e. asked_next (place_in files c.args.dir.now) (g.T.Tree.asked c.args.tree.now) (g.T.Tree.asked c.loop-entry.tree) (g.T.Tree.asked c.scan_entry.new.tree) c.args.entries.now c.loop-entry.entry-index c.entry-item.result c.loop-entry-test.true c.entry-item.is (c.loop-entry.invariant.asked files e) (c.in_ok-found.ensures.asked files (c.loop-entry.invariant.same_files ∙ e));
  reads = λ files e. entry_reads_on files c.args.dir.now c.args.entries.now c.loop-entry.entry-index c.entry-item.result c.loop-entry.kept.modules.items _ (tally_of c.loop-entry.so_far) (tally_of c.in_ok-found.after) _ (g.T.Tree.asked c.args.tree.now) (g.T.Tree.asked c.loop-entry.tree) (g.T.Tree.asked c.scan_entry.new.tree) (reads_of_entries files c.args.dir.now c.args.entries.now [] (tally_of c.args.counts)) c.loop-entry-test.true c.entry-item.is (c.loop-entry.invariant.reads files e) (c.in_ok-found.ensures.gives files (c.loop-entry.invariant.same_files ∙ e)) (c.in_ok-kept.ensures.gives (tally_of c.in_ok-found.after) c.loop-entry.invariant.names) (c.in_ok-found.ensures.reads files (c.loop-entry.invariant.same_files ∙ e));
  exact = λ x. c.in_ok-found.ensures.exact x ∙ c.loop-entry.invariant.exact x;
  names = c.in_ok-kept.ensures.names c.loop-entry.invariant.names;
  gives = λ files e.
      entry_steps files c.args.dir.now c.args.entries.now c.loop-entry.entry-index c.entry-item.result c.loop-entry.kept.modules.items _ (tally_of c.loop-entry.so_far) (tally_of c.in_ok-found.after) _ _ c.loop-entry-test.true c.entry-item.is
      (c.in_ok-found.ensures.gives files (c.loop-entry.invariant.same_files ∙ e)) (c.in_ok-kept.ensures.gives (tally_of c.in_ok-found.after) c.loop-entry.invariant.names) (c.loop-entry.invariant.gives files e);
}

pub returns-clause-gives : goal.returns-clause-gives
returns-clause-gives g c = λ files e.
    sym (c.loop-entry.invariant.gives files e) ∙ entries_over files c.args.dir.now c.args.entries.now c.loop-entry.entry-index c.loop-entry.kept.modules.items (tally_of c.loop-entry.so_far) (omega (arith, c.loop-entry-test.false))

pub returns-in_err-found-clause-exact : goal.returns-in_err-found-clause-exact
returns-in_err-found-clause-exact g c =
    let p = err_from_is_err_and c.from_residual.result c.from_residual.ensures.1 in
    rw (p.1, p.2) (λ x. c.in_err-found.ensures.exact x ∙ ap (faults_with _) (c.loop-entry.invariant.exact x))

pub returns-in_err-kept-clause-exact : goal.returns-in_err-kept-clause-exact
returns-in_err-kept-clause-exact g c =
    let p = err_from_is_err_and c.from_residual-in_err-kept.result c.from_residual-in_err-kept.ensures.1 in
    rw (p.1, p.2) (λ x. c.in_ok-found.ensures.exact x ∙ c.loop-entry.invariant.exact x ∙ sym (c.in_err-kept.ensures.not_read _))

pub returns-in_err-found-clause-asks : goal.returns-in_err-found-clause-asks
returns-in_err-found-clause-asks g c = λ files e.
    asks_next (place_in files c.args.dir.now) (g.T.Tree.asked c.args.tree.now) (g.T.Tree.asked c.loop-entry.tree) (g.T.Tree.asked c.scan_entry.new.tree) c.args.entries.now c.loop-entry.entry-index c.entry-item.result c.loop-entry-test.true c.entry-item.is (c.loop-entry.invariant.asked files e) (c.scan_entry.ensures.asks files (c.loop-entry.invariant.same_files ∙ e))

pub returns-in_err-kept-clause-asks : goal.returns-in_err-kept-clause-asks
returns-in_err-kept-clause-asks g c = λ files e.
    asks_next (place_in files c.args.dir.now) (g.T.Tree.asked c.args.tree.now) (g.T.Tree.asked c.loop-entry.tree) (g.T.Tree.asked c.scan_entry.new.tree) c.args.entries.now c.loop-entry.entry-index c.entry-item.result c.loop-entry-test.true c.entry-item.is (c.loop-entry.invariant.asked files e) (c.scan_entry.ensures.asks files (c.loop-entry.invariant.same_files ∙ e))

pub returns-clause-exact : goal.returns-clause-exact
returns-clause-exact g c = λ x. c.loop-entry.invariant.exact x

pub returns-clause-asks : goal.returns-clause-asks
returns-clause-asks g c = λ files e. asks_some (place_in files c.args.dir.now) (g.T.Tree.asked c.args.tree.now) (g.T.Tree.asked c.loop-entry.tree) c.args.entries.now c.loop-entry.entry-index (c.loop-entry.invariant.asked files e)

pub returns-clause-asked : goal.returns-clause-asked
returns-clause-asked g c = λ files e. asked_whole (place_in files c.args.dir.now) (g.T.Tree.asked c.args.tree.now) (g.T.Tree.asked c.loop-entry.tree) c.args.entries.now c.loop-entry.entry-index (omega (arith, c.loop-entry-test.false)) (c.loop-entry.invariant.asked files e)

pub loop-entry-init : goal.loop-entry-init
loop-entry-init g c = record {
  same_files = refl;
  counts = omega arith;
  asked = λ files e. starts_asking (g.T.Tree.asked c.args.tree.now);
  reads = λ files e. subst (λ os. AsksBefore (g.T.Tree.asked c.args.tree.now) (reads_of_entries files c.args.dir.now c.args.entries.now [] (tally_of c.args.counts)) (reads_of_entries files c.args.dir.now c.args.entries.now os (tally_of c.args.counts)) (g.T.Tree.asked c.args.tree.now)) (sym c.new-2.ensures.items) (before_all (g.T.Tree.asked c.args.tree.now) (reads_of_entries files c.args.dir.now c.args.entries.now [] (tally_of c.args.counts)));
  exact = λ x. refl;
  names = c.new.ensures.empty ∙ sym (ap (map name_of) c.new-2.ensures.items);
  gives = λ files e. ap (λ os. scan_entries files c.args.dir.now c.args.entries.now os (tally_of c.args.counts)) c.new-2.ensures.items;
}

pub returns-in_err-found-clause-reads : goal.returns-in_err-found-clause-reads
returns-in_err-found-clause-reads g c = λ files e.
    let p = err_from_is_err_and c.from_residual.result c.from_residual.ensures.1 in
    rw (p.1, p.2) (entry_ends_reads files c.args.dir.now c.args.entries.now c.loop-entry.entry-index c.entry-item.result c.loop-entry.kept.modules.items (tally_of c.loop-entry.so_far) c.in_err-found.field-0.0 (g.T.Tree.asked c.args.tree.now) (g.T.Tree.asked c.loop-entry.tree) (g.T.Tree.asked c.scan_entry.new.tree) (reads_of_entries files c.args.dir.now c.args.entries.now [] (tally_of c.args.counts)) c.loop-entry-test.true c.entry-item.is (c.loop-entry.invariant.reads files e)
    (entry_fault files c.args.dir.now c.entry-item.result c.loop-entry.kept.modules.items (tally_of c.loop-entry.so_far) c.in_err-found.field-0.0 (c.in_err-found.ensures.gives files (c.loop-entry.invariant.same_files ∙ e))) (c.in_err-found.ensures.reads files (c.loop-entry.invariant.same_files ∙ e)))

pub returns-in_err-kept-clause-reads : goal.returns-in_err-kept-clause-reads
returns-in_err-kept-clause-reads g c = λ files e.
    let p = err_from_is_err_and c.from_residual-in_err-kept.result c.from_residual-in_err-kept.ensures.1 in
    rw (p.1, p.2) (entry_ends_reads files c.args.dir.now c.args.entries.now c.loop-entry.entry-index c.entry-item.result c.loop-entry.kept.modules.items (tally_of c.loop-entry.so_far) c.in_err-kept.field-0.0 (g.T.Tree.asked c.args.tree.now) (g.T.Tree.asked c.loop-entry.tree) (g.T.Tree.asked c.scan_entry.new.tree) (reads_of_entries files c.args.dir.now c.args.entries.now [] (tally_of c.args.counts)) c.loop-entry-test.true c.entry-item.is (c.loop-entry.invariant.reads files e)
    (found_fault files c.args.dir.now c.entry-item.result c.loop-entry.kept.modules.items (tally_of c.loop-entry.so_far) _ c.in_err-kept.field-0.0 (c.in_ok-found.ensures.gives files (c.loop-entry.invariant.same_files ∙ e)) (c.in_err-kept.ensures.gives (tally_of c.in_ok-found.after) c.loop-entry.invariant.names)) (ends_whole c.in_err-kept.field-0.0 (g.T.Tree.asked c.loop-entry.tree) (g.T.Tree.asked c.scan_entry.new.tree) (reads_of_entry files c.args.dir.now c.entry-item.result (tally_of c.loop-entry.so_far)) (c.in_ok-found.ensures.reads files (c.loop-entry.invariant.same_files ∙ e))))

pub returns-clause-reads : goal.returns-clause-reads
returns-clause-reads g c = λ files e.
    entries_read files c.args.dir.now c.args.entries.now c.loop-entry.entry-index c.loop-entry.kept.modules.items (tally_of c.loop-entry.so_far) (g.T.Tree.asked c.args.tree.now) (g.T.Tree.asked c.loop-entry.tree) (reads_of_entries files c.args.dir.now c.args.entries.now [] (tally_of c.args.counts)) (omega (arith, c.loop-entry-test.false)) (c.loop-entry.invariant.reads files e)

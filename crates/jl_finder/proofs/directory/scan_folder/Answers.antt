use Rattle.std.proofs.Common.{◌∙◌, sym, subst, refl, ◌∷◌, []}
use Rattle.std.proofs.lemmas.Result.{err_from_is_err_and}
use Rattle.jl_finder.specs.Scanning.{AreEntries, tally_of}
use Rattle.jl_finder.specs.Asking.{place_at, reads_of_module, reads_of_folder}
use Rattle.jl_finder.proofs.Asking.{asks_so, asked_so, asked_nothing, no_place, place_there}
use Rattle.jl_finder.proofs.Scans.{folder_without, folder_fails, folder_done}
use Rattle.jl_finder.proofs.UntilFault.{ends_so, ends_untold, folder_uncounted, folder_reads, folder_unread}
use Rattle.jl_finder.proofs.directory.scan_folder.Goals as goal

pub returns-then-not-declares-clause-gives : goal.returns-then-not-declares-clause-gives
returns-then-not-declares-clause-gives g c = λ files e.
    folder_without files c.args.place c.as_slice.result.now (tally_of c.args.counts) (tally_of c.in_ok-counted.counted) (subst (AreEntries files c.args.place) (sym c.as_slice.ensures.value) (c.in_ok-entries.ensures.lists files e)) c.in_ok-counted.ensures.gives
    (sym c.declares.ensures ∙ c.if-not-declares.true)

pub returns-in_err-scanned-clause-gives : goal.returns-in_err-scanned-clause-gives
returns-in_err-scanned-clause-gives g c = λ files e.
    let p = err_from_is_err_and c.from_residual-in_err-scanned.result c.from_residual-in_err-scanned.ensures.1 in
    rw (p.1, p.2) (folder_fails files c.args.place c.as_slice.result.now (tally_of c.args.counts) (tally_of c.in_ok-counted.counted) c.in_err-scanned.field-0.0 (subst (AreEntries files c.args.place) (sym c.as_slice.ensures.value) (c.in_ok-entries.ensures.lists files e)) c.in_ok-counted.ensures.gives
    (sym c.declares.ensures ∙ c.if-not-declares.false) (c.in_err-scanned.ensures.gives files (c.entries_or_none.ensures.same_files ∙ e) (subst (AreEntries files c.args.place) (sym c.as_slice-2.ensures.value) (c.in_ok-entries.ensures.lists files e))))

pub returns-clause-gives : goal.returns-clause-gives
returns-clause-gives g c = λ files e.
    folder_done files c.args.place c.as_slice.result.now (tally_of c.args.counts) (tally_of c.in_ok-counted.counted) _ _ (subst (AreEntries files c.args.place) (sym c.as_slice.ensures.value) (c.in_ok-entries.ensures.lists files e)) c.in_ok-counted.ensures.gives
    (sym c.declares.ensures ∙ c.if-not-declares.false) (c.in_ok-scanned.ensures.gives files (c.entries_or_none.ensures.same_files ∙ e) (subst (AreEntries files c.args.place) (sym c.as_slice-2.ensures.value) (c.in_ok-entries.ensures.lists files e)))

pub returns-then-not-declares-clause-asked : goal.returns-then-not-declares-clause-asked
returns-then-not-declares-clause-asked g c = λ files e.
    asked_nothing (g.T.Tree.asked c.args.tree.now) (g.T.Tree.asked c.entries_or_none.new.tree) (place_at files c.args.place) (no_place files c.args.place c.as_slice.result.now (subst (AreEntries files c.args.place) (sym c.as_slice.ensures.value) (c.in_ok-entries.ensures.lists files e)) (sym c.declares.ensures ∙ c.if-not-declares.true)) c.entries_or_none.ensures.same_asked

pub returns-in_err-scanned-clause-asks : goal.returns-in_err-scanned-clause-asks
returns-in_err-scanned-clause-asks g c = λ files e.
    asks_so (g.T.Tree.asked c.args.tree.now) (g.T.Tree.asked c.entries_or_none.new.tree) (g.T.Tree.asked c.scan_module.new.tree) (c.args.place ∷ []) (place_at files c.args.place) c.entries_or_none.ensures.same_asked (place_there files c.args.place c.as_slice.result.now (subst (AreEntries files c.args.place) (sym c.as_slice.ensures.value) (c.in_ok-entries.ensures.lists files e)) (sym c.declares.ensures ∙ c.if-not-declares.false)) c.scan_module.ensures.asks

pub returns-clause-asks : goal.returns-clause-asks
returns-clause-asks g c = λ files e.
    asks_so (g.T.Tree.asked c.args.tree.now) (g.T.Tree.asked c.entries_or_none.new.tree) (g.T.Tree.asked c.scan_module.new.tree) (c.args.place ∷ []) (place_at files c.args.place) c.entries_or_none.ensures.same_asked (place_there files c.args.place c.as_slice.result.now (subst (AreEntries files c.args.place) (sym c.as_slice.ensures.value) (c.in_ok-entries.ensures.lists files e)) (sym c.declares.ensures ∙ c.if-not-declares.false)) c.scan_module.ensures.asks

pub returns-clause-asked : goal.returns-clause-asked
returns-clause-asked g c = λ files e.
    asked_so (g.T.Tree.asked c.args.tree.now) (g.T.Tree.asked c.entries_or_none.new.tree) (g.T.Tree.asked c.scan_module.new.tree) (c.args.place ∷ []) (place_at files c.args.place) c.entries_or_none.ensures.same_asked (place_there files c.args.place c.as_slice.result.now (subst (AreEntries files c.args.place) (sym c.as_slice.ensures.value) (c.in_ok-entries.ensures.lists files e)) (sym c.declares.ensures ∙ c.if-not-declares.false)) c.in_ok-scanned.ensures.asked

pub returns-in_err-counted-clause-reads : goal.returns-in_err-counted-clause-reads
returns-in_err-counted-clause-reads g c = λ files e.
    let p = err_from_is_err_and c.from_residual.result c.from_residual.ensures.1 in
    rw (p.1, p.2) (folder_uncounted files c.args.place (tally_of c.args.counts) c.in_err-counted.field-0.0 (g.T.Tree.asked c.args.tree.now) (g.T.Tree.asked c.args.tree.now) c.in_err-counted.ensures.gives refl)

pub returns-in_err-entries-clause-reads : goal.returns-in_err-entries-clause-reads
returns-in_err-entries-clause-reads g c = λ files e.
    let p = err_from_is_err_and c.from_residual-in_err-entries.result c.from_residual-in_err-entries.ensures.1 in
    rw (p.1, p.2) (ends_untold c.in_err-entries.field-0.0 (g.T.Tree.asked c.args.tree.now) (g.T.Tree.asked c.entries_or_none.new.tree) (reads_of_folder files c.args.place (tally_of c.args.counts)) c.in_err-entries.ensures.tells_nothing c.entries_or_none.ensures.same_asked)

pub returns-then-not-declares-clause-reads : goal.returns-then-not-declares-clause-reads
returns-then-not-declares-clause-reads g c = λ files e.
    asked_nothing (g.T.Tree.asked c.args.tree.now) (g.T.Tree.asked c.entries_or_none.new.tree) (reads_of_folder files c.args.place (tally_of c.args.counts)) (folder_unread files c.args.place c.as_slice.result.now (tally_of c.args.counts) (tally_of c.in_ok-counted.counted) (subst (AreEntries files c.args.place) (sym c.as_slice.ensures.value) (c.in_ok-entries.ensures.lists files e)) c.in_ok-counted.ensures.gives (sym c.declares.ensures ∙ c.if-not-declares.true)) c.entries_or_none.ensures.same_asked

pub returns-in_err-scanned-clause-reads : goal.returns-in_err-scanned-clause-reads
returns-in_err-scanned-clause-reads g c = λ files e.
    let p = err_from_is_err_and c.from_residual-in_err-scanned.result c.from_residual-in_err-scanned.ensures.1 in
    rw (p.1, p.2) (ends_so c.in_err-scanned.field-0.0 (g.T.Tree.asked c.args.tree.now) (g.T.Tree.asked c.entries_or_none.new.tree) (g.T.Tree.asked c.scan_module.new.tree) (reads_of_module files c.args.place (tally_of c.in_ok-counted.counted)) (reads_of_folder files c.args.place (tally_of c.args.counts)) c.entries_or_none.ensures.same_asked
    (folder_reads files c.args.place c.as_slice.result.now (tally_of c.args.counts) (tally_of c.in_ok-counted.counted) (subst (AreEntries files c.args.place) (sym c.as_slice.ensures.value) (c.in_ok-entries.ensures.lists files e)) c.in_ok-counted.ensures.gives (sym c.declares.ensures ∙ c.if-not-declares.false)) (c.in_err-scanned.ensures.reads files (c.entries_or_none.ensures.same_files ∙ e) (subst (AreEntries files c.args.place) (sym c.as_slice-2.ensures.value) (c.in_ok-entries.ensures.lists files e))))

pub returns-clause-reads : goal.returns-clause-reads
returns-clause-reads g c = λ files e.
    asked_so (g.T.Tree.asked c.args.tree.now) (g.T.Tree.asked c.entries_or_none.new.tree) (g.T.Tree.asked c.scan_module.new.tree) (reads_of_module files c.args.place (tally_of c.in_ok-counted.counted)) (reads_of_folder files c.args.place (tally_of c.args.counts)) c.entries_or_none.ensures.same_asked
    (folder_reads files c.args.place c.as_slice.result.now (tally_of c.args.counts) (tally_of c.in_ok-counted.counted) (subst (AreEntries files c.args.place) (sym c.as_slice.ensures.value) (c.in_ok-entries.ensures.lists files e)) c.in_ok-counted.ensures.gives (sym c.declares.ensures ∙ c.if-not-declares.false)) (c.in_ok-scanned.ensures.reads files (c.entries_or_none.ensures.same_files ∙ e) (subst (AreEntries files c.args.place) (sym c.as_slice-2.ensures.value) (c.in_ok-entries.ensures.lists files e)))

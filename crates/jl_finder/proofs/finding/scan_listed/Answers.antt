use Rattle.std.proofs.Common.{◌∙◌, sym, ap, subst, ◌∷◌, ◌++◌, [], refl}
use Rattle.std.proofs.lemmas.Result.{err_from_is_err_and}
use Rattle.jl_finder.specs.Scanning.{AreEntries, tally_of}
use Rattle.jl_finder.specs.Asking.{place_in, places_of, reads_behind, reads_of_listed, reads_of_module, reads_of_entries}
use Rattle.std.specs.List.{flat_map}
use Rattle.jl_finder.proofs.Asking.{asks_nothing, asks_all, asks_so, asked_so, ok_so, inside, itself}
use Rattle.jl_finder.proofs.Elements.{listed_directory, listed_fails_at, listed_done_at, listed_so}
use Rattle.jl_finder.proofs.UntilFault.{ends_so, reads_so, listed_uncounted, itself_reads, inside_reads}
use Rattle.jl_finder.specs.Observed.{with_folders}
use Rattle.jl_finder.proofs.finding.scan_listed.Goals as goal

pub returns-then-not-declares-clause-gives : goal.returns-then-not-declares-clause-gives
returns-then-not-declares-clause-gives g c = λ files e h.
    listed_so c.scan_directory.result _ _ (listed_directory files c.args.element.now c.args.entries.now (tally_of c.args.counts) (tally_of c.in_ok-counted.counted) h c.in_ok-counted.ensures.gives
    (sym c.declares.ensures ∙ c.if-not-declares.true)) (c.scan_directory.ensures.gives files e)

pub returns-in_err-scanned-clause-gives : goal.returns-in_err-scanned-clause-gives
returns-in_err-scanned-clause-gives g c = λ files e h.
    let p = err_from_is_err_and c.from_residual-in_err-scanned.result c.from_residual-in_err-scanned.ensures.1 in
    rw (p.1, p.2) (listed_fails_at files c.args.element.now c.in_ok-copy.field-0 c.args.entries.now (tally_of c.args.counts) (tally_of c.in_ok-counted.counted) c.in_err-scanned.field-0.0 h c.in_ok-copy.ensures c.in_ok-counted.ensures.gives
    (sym c.declares.ensures ∙ c.if-not-declares.false) (c.in_err-scanned.ensures.gives files e))

pub returns-clause-gives : goal.returns-clause-gives
returns-clause-gives g c = λ files e h.
    listed_done_at files c.args.element.now c.in_ok-copy.field-0 c.args.entries.now (tally_of c.args.counts) (tally_of c.in_ok-counted.counted) _ _ _ h c.in_ok-copy.ensures c.in_ok-counted.ensures.gives
    (sym c.declares.ensures ∙ c.if-not-declares.false) (c.in_ok-scanned.ensures.gives files e) (c.in_ok-push.ensures.items ∙ ap (λ os. os ++ c.in_ok-scanned.scanned.0 ∷ []) c.new-modules.ensures.items)

pub returns-then-not-declares-clause-asks : goal.returns-then-not-declares-clause-asks
returns-then-not-declares-clause-asks g c = λ files e h.
    asks_so (g.T.Tree.asked c.args.tree.now) (g.T.Tree.asked c.args.tree.now) (g.T.Tree.asked c.scan_directory.new.tree) (flat_map (place_in files c.args.element.now) c.args.entries.now) (places_of files c.args.element.now) refl (inside files c.args.element.now c.args.entries.now h (sym c.declares.ensures ∙ c.if-not-declares.true)) (c.scan_directory.ensures.asks files e)

pub returns-then-not-declares-clause-asked : goal.returns-then-not-declares-clause-asked
returns-then-not-declares-clause-asked g c = λ files e h.
    ok_so c.scan_directory.result (g.T.Tree.asked c.args.tree.now) (g.T.Tree.asked c.args.tree.now) (g.T.Tree.asked c.scan_directory.new.tree) (flat_map (place_in files c.args.element.now) c.args.entries.now) (places_of files c.args.element.now) refl (inside files c.args.element.now c.args.entries.now h (sym c.declares.ensures ∙ c.if-not-declares.true)) (c.scan_directory.ensures.asked files e)

pub returns-in_err-scanned-clause-asks : goal.returns-in_err-scanned-clause-asks
returns-in_err-scanned-clause-asks g c = λ files e h.
    asks_so (g.T.Tree.asked c.args.tree.now) (g.T.Tree.asked c.args.tree.now) (g.T.Tree.asked c.scan_module.new.tree) (c.in_ok-copy.field-0 ∷ []) (places_of files c.args.element.now) refl (ap (λ t. t ∷ []) c.in_ok-copy.ensures ∙ itself files c.args.element.now c.args.entries.now h (sym c.declares.ensures ∙ c.if-not-declares.false)) c.scan_module.ensures.asks

pub returns-in_err-push-clause-asks : goal.returns-in_err-push-clause-asks
returns-in_err-push-clause-asks g c = λ files e h.
    asks_so (g.T.Tree.asked c.args.tree.now) (g.T.Tree.asked c.args.tree.now) (g.T.Tree.asked c.scan_module.new.tree) (c.in_ok-copy.field-0 ∷ []) (places_of files c.args.element.now) refl (ap (λ t. t ∷ []) c.in_ok-copy.ensures ∙ itself files c.args.element.now c.args.entries.now h (sym c.declares.ensures ∙ c.if-not-declares.false)) c.scan_module.ensures.asks

pub returns-clause-asks : goal.returns-clause-asks
returns-clause-asks g c = λ files e h.
    asks_so (g.T.Tree.asked c.args.tree.now) (g.T.Tree.asked c.args.tree.now) (g.T.Tree.asked c.scan_module.new.tree) (c.in_ok-copy.field-0 ∷ []) (places_of files c.args.element.now) refl (ap (λ t. t ∷ []) c.in_ok-copy.ensures ∙ itself files c.args.element.now c.args.entries.now h (sym c.declares.ensures ∙ c.if-not-declares.false)) c.scan_module.ensures.asks

pub returns-clause-asked : goal.returns-clause-asked
returns-clause-asked g c = λ files e h.
    asked_so (g.T.Tree.asked c.args.tree.now) (g.T.Tree.asked c.args.tree.now) (g.T.Tree.asked c.scan_module.new.tree) (c.in_ok-copy.field-0 ∷ []) (places_of files c.args.element.now) refl (ap (λ t. t ∷ []) c.in_ok-copy.ensures ∙ itself files c.args.element.now c.args.entries.now h (sym c.declares.ensures ∙ c.if-not-declares.false)) c.in_ok-scanned.ensures.asked

pub returns-in_err-counted-clause-reads : goal.returns-in_err-counted-clause-reads
returns-in_err-counted-clause-reads g c = λ files e h.
    let p = err_from_is_err_and c.from_residual.result c.from_residual.ensures.1 in
    rw (p.1, p.2) (listed_uncounted files c.args.element.now (tally_of c.args.counts) c.in_err-counted.field-0.0 (g.T.Tree.asked c.args.tree.now) (g.T.Tree.asked c.args.tree.now) c.in_err-counted.ensures.gives refl)

pub returns-then-not-declares-clause-reads : goal.returns-then-not-declares-clause-reads
returns-then-not-declares-clause-reads g c = λ files e h.
    reads_so c.scan_directory.result (g.T.Tree.asked c.args.tree.now) (g.T.Tree.asked c.args.tree.now) (g.T.Tree.asked c.scan_directory.new.tree) (reads_of_entries files c.args.element.now c.args.entries.now [] (tally_of c.in_ok-counted.counted)) (reads_behind (with_folders 1 (tally_of c.args.counts)) (reads_of_listed files c.args.element.now)) refl
    (inside_reads files c.args.element.now c.args.entries.now (tally_of c.args.counts) (tally_of c.in_ok-counted.counted) h c.in_ok-counted.ensures.gives (sym c.declares.ensures ∙ c.if-not-declares.true)) (c.scan_directory.ensures.reads files e)

pub returns-in_err-copy-clause-reads : goal.returns-in_err-copy-clause-reads
returns-in_err-copy-clause-reads g c = λ files e h.
    let p = err_from_is_err_and c.from_residual-in_err-copy.result c.from_residual-in_err-copy.ensures.1 in
    rw (p.1, p.2) (asks_nothing (g.T.Tree.asked c.args.tree.now) (g.T.Tree.asked c.args.tree.now) (reads_behind (with_folders 1 (tally_of c.args.counts)) (reads_of_listed files c.args.element.now)) refl)

pub returns-in_err-scanned-clause-reads : goal.returns-in_err-scanned-clause-reads
returns-in_err-scanned-clause-reads g c = λ files e h.
    let p = err_from_is_err_and c.from_residual-in_err-scanned.result c.from_residual-in_err-scanned.ensures.1 in
    rw (p.1, p.2) (ends_so c.in_err-scanned.field-0.0 (g.T.Tree.asked c.args.tree.now) (g.T.Tree.asked c.args.tree.now) (g.T.Tree.asked c.scan_module.new.tree) (reads_of_module files c.in_ok-copy.field-0 (tally_of c.in_ok-counted.counted)) (reads_behind (with_folders 1 (tally_of c.args.counts)) (reads_of_listed files c.args.element.now)) refl
    (ap (λ p. reads_of_module files p (tally_of c.in_ok-counted.counted)) c.in_ok-copy.ensures ∙ itself_reads files c.args.element.now c.args.entries.now (tally_of c.args.counts) (tally_of c.in_ok-counted.counted) h c.in_ok-counted.ensures.gives (sym c.declares.ensures ∙ c.if-not-declares.false)) (c.in_err-scanned.ensures.reads files e (subst (λ p. AreEntries files p c.args.entries.now) (sym c.in_ok-copy.ensures) h)))

pub returns-in_err-push-clause-reads : goal.returns-in_err-push-clause-reads
returns-in_err-push-clause-reads g c = λ files e h.
    let p = err_from_is_err_and c.from_residual-in_err-push.result c.from_residual-in_err-push.ensures.1 in
    rw (p.1, p.2) (asks_all (g.T.Tree.asked c.args.tree.now) (g.T.Tree.asked c.scan_module.new.tree) (reads_behind (with_folders 1 (tally_of c.args.counts)) (reads_of_listed files c.args.element.now)) (asked_so (g.T.Tree.asked c.args.tree.now) (g.T.Tree.asked c.args.tree.now) (g.T.Tree.asked c.scan_module.new.tree) (reads_of_module files c.in_ok-copy.field-0 (tally_of c.in_ok-counted.counted)) (reads_behind (with_folders 1 (tally_of c.args.counts)) (reads_of_listed files c.args.element.now)) refl
    (ap (λ p. reads_of_module files p (tally_of c.in_ok-counted.counted)) c.in_ok-copy.ensures ∙ itself_reads files c.args.element.now c.args.entries.now (tally_of c.args.counts) (tally_of c.in_ok-counted.counted) h c.in_ok-counted.ensures.gives (sym c.declares.ensures ∙ c.if-not-declares.false)) (c.in_ok-scanned.ensures.reads files e (subst (λ p. AreEntries files p c.args.entries.now) (sym c.in_ok-copy.ensures) h))))

pub returns-clause-reads : goal.returns-clause-reads
returns-clause-reads g c = λ files e h.
    asked_so (g.T.Tree.asked c.args.tree.now) (g.T.Tree.asked c.args.tree.now) (g.T.Tree.asked c.scan_module.new.tree) (reads_of_module files c.in_ok-copy.field-0 (tally_of c.in_ok-counted.counted)) (reads_behind (with_folders 1 (tally_of c.args.counts)) (reads_of_listed files c.args.element.now)) refl
    (ap (λ p. reads_of_module files p (tally_of c.in_ok-counted.counted)) c.in_ok-copy.ensures ∙ itself_reads files c.args.element.now c.args.entries.now (tally_of c.args.counts) (tally_of c.in_ok-counted.counted) h c.in_ok-counted.ensures.gives (sym c.declares.ensures ∙ c.if-not-declares.false)) (c.in_ok-scanned.ensures.reads files e (subst (λ p. AreEntries files p c.args.entries.now) (sym c.in_ok-copy.ensures) h))

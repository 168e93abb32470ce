use Rattle.std.proofs.Common.{◌∙◌, refl}
use Rattle.std.proofs.lemmas.Result.{err_from_is_err_and}
use Rattle.jl_finder.specs.Scanning.{tally_of}
use Rattle.jl_finder.proofs.Modules.{uncounted, unwalked, unread, scanned_well, walked_packages}
use Rattle.jl_finder.proofs.UntilFault.{ends_so, uncounted_reads, unwalked_reads, beside_reads}
use Rattle.jl_finder.proofs.Asking.{asked_so}
use Rattle.jl_finder.specs.Asking.{reads_beside, reads_of_module}
use Rattle.jl_finder.specs.Folders.{top_classes}
use Rattle.jl_finder.proofs.module.scan_module.Goals as goal

pub returns-in_err-counted-clause-gives : goal.returns-in_err-counted-clause-gives
returns-in_err-counted-clause-gives g c = λ files e h.
    let p = err_from_is_err_and c.from_residual.result c.from_residual.ensures.1 in
    rw (p.1, p.2) (uncounted files c.args.place (tally_of c.args.counts) c.in_err-counted.field-0.0 c.in_err-counted.ensures.gives)

pub returns-in_err-walked-clause-gives : goal.returns-in_err-walked-clause-gives
returns-in_err-walked-clause-gives g c = λ files e h.
    let p = err_from_is_err_and c.from_residual-in_err-walked.result c.from_residual-in_err-walked.ensures.1 in
    rw (p.1, p.2) (unwalked files c.args.place (tally_of c.args.counts) (tally_of c.in_ok-counted.counted) c.in_err-walked.field-0.0 c.in_ok-counted.ensures.gives (c.in_err-walked.ensures.gives files e h))

pub returns-in_err-module-clause-gives : goal.returns-in_err-module-clause-gives
returns-in_err-module-clause-gives g c = λ files e h.
    let p = err_from_is_err_and c.from_residual-in_err-module.result c.from_residual-in_err-module.ensures.1 in
    let w = c.in_ok-walked.ensures.gives files e h in
    rw (p.1, p.2) (unread files c.args.place (tally_of c.args.counts) (tally_of c.in_ok-counted.counted) c.in_ok-walked.walked.packages.items c.in_ok-walked.walked.folders c.in_err-module.field-0.0 c.in_ok-counted.ensures.gives w
    (c.in_err-module.ensures.gives files (c.in_ok-walked.ensures.same_files ∙ e) h (c.as_slice.ensures.value ∙ walked_packages files c.args.place _ _ _ w)))

pub returns-clause-gives : goal.returns-clause-gives
returns-clause-gives g c = λ files e h.
    let w = c.in_ok-walked.ensures.gives files e h in
    scanned_well files c.args.place (tally_of c.args.counts) (tally_of c.in_ok-counted.counted) c.in_ok-walked.walked.packages.items c.in_ok-walked.walked.folders c.in_ok-module.module c.in_ok-counted.ensures.gives w
    (c.in_ok-module.ensures.gives files (c.in_ok-walked.ensures.same_files ∙ e) h (c.as_slice.ensures.value ∙ walked_packages files c.args.place _ _ _ w))

pub returns-in_err-counted-clause-reads : goal.returns-in_err-counted-clause-reads
returns-in_err-counted-clause-reads g c = λ files e h.
    let p = err_from_is_err_and c.from_residual.result c.from_residual.ensures.1 in
    rw (p.1, p.2) (uncounted_reads files c.args.place (tally_of c.args.counts) c.in_err-counted.field-0.0 (g.T.Tree.asked c.args.tree.now) (g.T.Tree.asked c.args.tree.now) c.in_err-counted.ensures.gives refl)

pub returns-in_err-walked-clause-reads : goal.returns-in_err-walked-clause-reads
returns-in_err-walked-clause-reads g c = λ files e h.
    let p = err_from_is_err_and c.from_residual-in_err-walked.result c.from_residual-in_err-walked.ensures.1 in
    rw (p.1, p.2) (unwalked_reads files c.args.place (tally_of c.args.counts) (tally_of c.in_ok-counted.counted) c.in_err-walked.field-0.0 (g.T.Tree.asked c.args.tree.now) (g.T.Tree.asked c.walk.new.tree) c.in_ok-counted.ensures.gives (c.in_err-walked.ensures.gives files e h) c.walk.ensures.same_asked)

pub returns-in_err-module-clause-reads : goal.returns-in_err-module-clause-reads
returns-in_err-module-clause-reads g c = λ files e h.
    let p = err_from_is_err_and c.from_residual-in_err-module.result c.from_residual-in_err-module.ensures.1 in
    rw (p.1, p.2) (ends_so c.in_err-module.field-0.0 (g.T.Tree.asked c.args.tree.now) (g.T.Tree.asked c.walk.new.tree) (g.T.Tree.asked c.module_at.new.tree) (reads_beside c.args.place (top_classes files c.args.place)) (reads_of_module files c.args.place (tally_of c.args.counts)) c.walk.ensures.same_asked
    (beside_reads files c.args.place (tally_of c.args.counts) (tally_of c.in_ok-counted.counted) c.in_ok-walked.walked.packages.items c.in_ok-walked.walked.folders c.in_ok-counted.ensures.gives (c.in_ok-walked.ensures.gives files e h)) (c.in_err-module.ensures.reads files (c.in_ok-walked.ensures.same_files ∙ e) h))

pub returns-clause-reads : goal.returns-clause-reads
returns-clause-reads g c = λ files e h.
    asked_so (g.T.Tree.asked c.args.tree.now) (g.T.Tree.asked c.walk.new.tree) (g.T.Tree.asked c.module_at.new.tree) (reads_beside c.args.place (top_classes files c.args.place)) (reads_of_module files c.args.place (tally_of c.args.counts)) c.walk.ensures.same_asked
    (beside_reads files c.args.place (tally_of c.args.counts) (tally_of c.in_ok-counted.counted) c.in_ok-walked.walked.packages.items c.in_ok-walked.walked.folders c.in_ok-counted.ensures.gives (c.in_ok-walked.ensures.gives files e h)) (c.in_ok-module.ensures.reads files (c.in_ok-walked.ensures.same_files ∙ e) h)

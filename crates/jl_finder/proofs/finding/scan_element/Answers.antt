use Rattle.std.proofs.Common.{refl, ◌∙◌, ap, sym, subst, option_map, []}
use Rattle.jl_finder.specs.Scanning.{AreEntries, IsListed, tally_of}
use Rattle.jl_finder.specs.Asking.{places_of, reads_behind, reads_of_listed, reads_of_element}
use Rattle.jl_finder.proofs.Asking.{ok_so, asked_nothing, inside}
use Rattle.jl_finder.proofs.UntilFault.{ends_untold, reads_so, element_reads, element_unread}
use Rattle.jl_finder.specs.Observed.{with_folders}
use Rattle.jl_finder.specs.Paths.{is_archive}
use Rattle.std.proofs.lemmas.Result.{err_from_is_err_and}
use Rattle.jl_finder.proofs.finding.scan_element.Goals as goal

pub returns-in-None-clause-asked : goal.returns-in-None-clause-asked
returns-in-None-clause-asked g c = λ files e.
    let listed = subst (IsListed files c.args.element.now) (ap (option_map (λ v. v.items)) c.in-None.is) (c.in_ok-entries_in.ensures.lists files e) in
    asked_nothing (g.T.Tree.asked c.args.tree.now) (g.T.Tree.asked c.entries_in.new.tree) (places_of files c.args.element.now) (sym (inside files c.args.element.now [] listed.1 refl)) c.entries_in.ensures.same_asked

pub returns-in-Some-clause-asked : goal.returns-in-Some-clause-asked
returns-in-Some-clause-asked g c = λ files e.
    let listed = subst (IsListed files c.args.element.now) (ap (option_map (λ v. v.items)) c.in-Some.is) (c.in_ok-entries_in.ensures.lists files e) in
    ok_so c.scan_listed.result (g.T.Tree.asked c.args.tree.now) (g.T.Tree.asked c.entries_in.new.tree) (g.T.Tree.asked c.scan_listed.new.tree) (places_of files c.args.element.now) (places_of files c.args.element.now) c.entries_in.ensures.same_asked refl
    (c.scan_listed.ensures.asked files (c.entries_in.ensures.same_files ∙ e) (subst (AreEntries files c.args.element.now) (sym c.as_slice.ensures.value) listed.1))

pub returns-in_err-entries_in-clause-reads : goal.returns-in_err-entries_in-clause-reads
returns-in_err-entries_in-clause-reads g c = λ files e.
    let p = err_from_is_err_and c.from_residual-in_err-entries_in.result c.from_residual-in_err-entries_in.ensures.1 in
    rw (p.1, p.2) (ends_untold c.in_err-entries_in.field-0.0 (g.T.Tree.asked c.args.tree.now) (g.T.Tree.asked c.entries_in.new.tree) (reads_of_element files c.args.element.now (tally_of c.args.counts)) c.in_err-entries_in.ensures.tells_nothing c.entries_in.ensures.same_asked)

pub returns-in-None-clause-reads : goal.returns-in-None-clause-reads
returns-in-None-clause-reads g c = λ files e.
    let listed = subst (IsListed files c.args.element.now) (ap (option_map (λ v. v.items)) c.in-None.is) (c.in_ok-entries_in.ensures.lists files e) in
    asked_nothing (g.T.Tree.asked c.args.tree.now) (g.T.Tree.asked c.entries_in.new.tree) (reads_of_element files c.args.element.now (tally_of c.args.counts)) (element_unread files c.args.element.now (tally_of c.args.counts) (sym (c.is_archive.ensures ∙ ap is_archive c.as_bytes.ensures) ∙ c.if-is_archive.false) listed.0) c.entries_in.ensures.same_asked

pub returns-in-Some-clause-reads : goal.returns-in-Some-clause-reads
returns-in-Some-clause-reads g c = λ files e.
    let listed = subst (IsListed files c.args.element.now) (ap (option_map (λ v. v.items)) c.in-Some.is) (c.in_ok-entries_in.ensures.lists files e) in
    reads_so c.scan_listed.result (g.T.Tree.asked c.args.tree.now) (g.T.Tree.asked c.entries_in.new.tree) (g.T.Tree.asked c.scan_listed.new.tree) (reads_behind (with_folders 1 (tally_of c.args.counts)) (reads_of_listed files c.args.element.now)) (reads_of_element files c.args.element.now (tally_of c.args.counts)) c.entries_in.ensures.same_asked (element_reads files c.args.element.now (tally_of c.args.counts) (sym (c.is_archive.ensures ∙ ap is_archive c.as_bytes.ensures) ∙ c.if-is_archive.false) listed.0)
    (c.scan_listed.ensures.reads files (c.entries_in.ensures.same_files ∙ e) (subst (AreEntries files c.args.element.now) (sym c.as_slice.ensures.value) listed.1))

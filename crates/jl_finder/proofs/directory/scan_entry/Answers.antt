use Rattle.std.proofs.Common.{refl, sym, ◌∙◌, ap}
use Rattle.jl_finder.specs.Paths.{path_in, is_archive}
use Rattle.jl_finder.specs.Asking.{place_at, place_in, reads_of_folder, reads_of_entry}
use Rattle.jl_finder.proofs.Asking.{ok_so, entry_place}
use Rattle.jl_finder.proofs.UntilFault.{reads_so, entry_reads}
use Rattle.jl_finder.specs.Scanning.{tally_of}
use Rattle.jl_finder.proofs.directory.scan_entry.Goals as goal

pub returns-clause-asked : goal.returns-clause-asked
returns-clause-asked g c = λ files e.
    ok_so c.scan_folder.result (g.T.Tree.asked c.args.tree.now) (g.T.Tree.asked c.args.tree.now) (g.T.Tree.asked c.scan_folder.new.tree) (place_at files c.in_ok-place.place) (place_in files c.args.dir.now c.args.entry.now) refl
    (entry_place files c.args.dir.now c.in_ok-place.place c.args.entry.now (c.in_ok-place.ensures ∙ ap (path_in c.args.dir.now) c.as_str-2.ensures) c.if-not-entry.false) (c.scan_folder.ensures.asked files e)

pub returns-clause-reads : goal.returns-clause-reads
returns-clause-reads g c = λ files e.
    reads_so c.scan_folder.result (g.T.Tree.asked c.args.tree.now) (g.T.Tree.asked c.args.tree.now) (g.T.Tree.asked c.scan_folder.new.tree) (reads_of_folder files c.in_ok-place.place (tally_of c.args.counts)) (reads_of_entry files c.args.dir.now c.args.entry.now (tally_of c.args.counts)) refl
    (entry_reads files c.args.dir.now c.in_ok-place.place c.args.entry.now (tally_of c.args.counts) (c.in_ok-place.ensures ∙ ap (path_in c.args.dir.now) c.as_str-2.ensures) (sym (c.is_archive.ensures ∙ ap is_archive c.as_bytes.ensures) ∙ c.if-is_archive.false) c.if-not-entry.false) (c.scan_folder.ensures.reads files e)

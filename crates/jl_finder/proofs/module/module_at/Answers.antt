use Rattle.std.proofs.Common.{◌∙◌, sym, ap, refl, ◌∷◌, []}
use Rattle.jl_finder.specs.Paths.{path_in}
use Rattle.jl_finder.proofs.Modules.{module_so, none_beside, one_beside}
use Rattle.jl_finder.proofs.UntilFault.{reads_so, one_reads, none_reads}
use Rattle.jl_finder.proofs.Asking.{asks_nothing, asked_nothing}
use Rattle.jl_finder.specs.Asking.{reads_beside}
use Rattle.jl_finder.specs.Folders.{top_classes}
use Rattle.std.proofs.lemmas.Result.{err_from_is_err_and}
use Rattle.jl_finder.proofs.module.module_at.Goals as goal

pub returns-in_ok-path-in-Some-clause-gives : goal.returns-in_ok-path-in-Some-clause-gives
returns-in_ok-path-in-Some-clause-gives g c = λ files e h q.
    one_beside files c.args.place c.args.entries.now c.in-Some.class.now c.in_ok-path-in-Some.path h (sym c.in-Some.ensures) (c.in_ok-path-in-Some.ensures ∙ ap (path_in c.args.place) c.as_str.ensures)

pub returns-in-None-clause-gives : goal.returns-in-None-clause-gives
returns-in-None-clause-gives g c = λ files e h q.
    module_so c.read_module.result _ _ (none_beside files c.args.place c.args.entries.now c.args.packages.now h (sym c.in-None.ensures) q) (c.read_module.ensures.gives files e)

pub returns-in_ok-path-in-Some-clause-reads : goal.returns-in_ok-path-in-Some-clause-reads
returns-in_ok-path-in-Some-clause-reads g c = λ files e h.
    asked_nothing (g.T.Tree.asked c.args.tree.now) (g.T.Tree.asked c.args.tree.now) (reads_beside c.args.place (top_classes files c.args.place)) (one_reads files c.args.place c.args.entries.now c.in-Some.class.now h (sym c.in-Some.ensures)) refl

pub returns-in-None-clause-reads : goal.returns-in-None-clause-reads
returns-in-None-clause-reads g c = λ files e h.
    reads_so c.read_module.result (g.T.Tree.asked c.args.tree.now) (g.T.Tree.asked c.args.tree.now) (g.T.Tree.asked c.read_module.new.tree) (c.args.place ∷ []) (reads_beside c.args.place (top_classes files c.args.place)) refl (none_reads files c.args.place c.args.entries.now h (sym c.in-None.ensures)) c.read_module.ensures.reads

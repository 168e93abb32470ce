use Rattle.std.proofs.Common.{◌∙◌}
use Rattle.std.proofs.lemmas.Result.{err_from_is_err_and}
use Rattle.jl_finder.proofs.Elements.{found_fails, found_all}
use Rattle.jl_finder.proofs.Asking.{asks_all}
use Rattle.jl_finder.specs.Asking.{reads_of}
use Rattle.jl_finder.proofs.finding.find_all.Goals as goal

pub returns-in_err-modules-clause-found : goal.returns-in_err-modules-clause-found
returns-in_err-modules-clause-found g c =
    let p = err_from_is_err_and c.from_residual.result c.from_residual.ensures.1 in
    rw (p.1, p.2) (found_fails (g.T.Tree.files c.args.tree.now) c.args.elements.now c.in_err-modules.field-0.0 c.in_err-modules.ensures.gives)

pub returns-clause-found : goal.returns-clause-found
returns-clause-found g c =
    found_all (g.T.Tree.files c.args.tree.now) c.args.elements.now c.in_ok-modules.modules.items _ c.in_ok-modules.ensures.gives (c.from_vec.ensures ∙ c.in_ok-kept.ensures)

pub returns-in_err-modules-clause-reads : goal.returns-in_err-modules-clause-reads
returns-in_err-modules-clause-reads g c = λ files e.
    let p = err_from_is_err_and c.from_residual.result c.from_residual.ensures.1 in
    rw (p.1, p.2) (c.in_err-modules.ensures.reads files e)

pub returns-in_err-kept-clause-reads : goal.returns-in_err-kept-clause-reads
returns-in_err-kept-clause-reads g c = λ files e.
    let p = err_from_is_err_and c.from_residual-in_err-kept.result c.from_residual-in_err-kept.ensures.1 in
    rw (p.1, p.2) (asks_all (g.T.Tree.asked c.args.tree.now) (g.T.Tree.asked c.scan_elements.new.tree) (reads_of files c.args.elements.now) (c.in_ok-modules.ensures.reads files e))

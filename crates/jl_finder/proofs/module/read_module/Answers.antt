use Rattle.std.proofs.Common.{◌∙◌, sym, ap, refl, Some, option_map, ◌∷◌, []}
use Rattle.std.proofs.lemmas.Result.{err_from_is_err_and}
use Rattle.jl_finder.proofs.Asking.{asks_nothing, asks_one, asked_one, if_ok}
use Rattle.jl_finder.proofs.Modules.{module_so, told_none, told_some, told_large}
use Rattle.jl_finder.proofs.UntilFault.{asks_whole, ends_read}
use Rattle.jl_finder.proofs.module.read_module.Goals as goal

pub returns-in_err-content-clause-gives : goal.returns-in_err-content-clause-gives
returns-in_err-content-clause-gives g c = λ files e.
    let p = err_from_is_err_and c.from_residual-in_err-content.result c.from_residual-in_err-content.ensures.1 in
    rw (p.1, p.2) (told_large (g.T.Tree.files c.args.tree.now) files c.args.place c.in_ok-file.file c.args.packages.now c.in_err-content.field-0.0 e c.in_err-content.ensures.gives c.in_ok-file.ensures)

pub returns-in-None-clause-gives : goal.returns-in-None-clause-gives
returns-in-None-clause-gives g c = λ files e.
    module_so c.declared_in.result _ _ (told_none (g.T.Tree.files c.args.tree.now) files c.args.place c.in_ok-file.file c.args.packages.now (option_map (λ v. v.items) c.in_ok-content.content) e (ap (λ o. option_map (λ v. v.items) o) c.in-None.is) c.in_ok-content.ensures.gives c.in_ok-file.ensures) c.declared_in.ensures.gives

pub returns-in-Some-clause-gives : goal.returns-in-Some-clause-gives
returns-in-Some-clause-gives g c = λ files e.
    module_so c.declared_in-in-Some.result _ _ (told_some (g.T.Tree.files c.args.tree.now) files c.args.place c.in_ok-file.file c.as_slice.result.now c.args.packages.now (option_map (λ v. v.items) c.in_ok-content.content) e (ap (λ o. option_map (λ v. v.items) o) c.in-Some.is ∙ ap Some (sym c.as_slice.ensures.value)) c.in_ok-content.ensures.gives c.in_ok-file.ensures)
    c.declared_in-in-Some.ensures.gives

pub returns-in_err-content-clause-asks : goal.returns-in_err-content-clause-asks
returns-in_err-content-clause-asks g c = asks_one (g.T.Tree.asked c.args.tree.now) (g.T.Tree.asked c.content_at.new.tree) c.args.place c.in_ok-file.file c.in_ok-file.ensures c.content_at.ensures.asks

pub returns-in-None-clause-asks : goal.returns-in-None-clause-asks
returns-in-None-clause-asks g c = asks_one (g.T.Tree.asked c.args.tree.now) (g.T.Tree.asked c.content_at.new.tree) c.args.place c.in_ok-file.file c.in_ok-file.ensures c.content_at.ensures.asks

pub returns-in-Some-clause-asks : goal.returns-in-Some-clause-asks
returns-in-Some-clause-asks g c = asks_one (g.T.Tree.asked c.args.tree.now) (g.T.Tree.asked c.content_at.new.tree) c.args.place c.in_ok-file.file c.in_ok-file.ensures c.content_at.ensures.asks

pub returns-in-None-clause-asked : goal.returns-in-None-clause-asked
returns-in-None-clause-asked g c = if_ok c.declared_in.result (asked_one (g.T.Tree.asked c.args.tree.now) (g.T.Tree.asked c.content_at.new.tree) c.args.place c.in_ok-file.file c.in_ok-file.ensures c.in_ok-content.ensures.asked)

pub returns-in-Some-clause-asked : goal.returns-in-Some-clause-asked
returns-in-Some-clause-asked g c = if_ok c.declared_in-in-Some.result (asked_one (g.T.Tree.asked c.args.tree.now) (g.T.Tree.asked c.content_at.new.tree) c.args.place c.in_ok-file.file c.in_ok-file.ensures c.in_ok-content.ensures.asked)

pub returns-in_err-file-clause-reads : goal.returns-in_err-file-clause-reads
returns-in_err-file-clause-reads g c =
    let p = err_from_is_err_and c.from_residual.result c.from_residual.ensures.1 in
    rw (p.1, p.2) (asks_nothing (g.T.Tree.asked c.args.tree.now) (g.T.Tree.asked c.args.tree.now) (c.args.place ∷ []) refl)

pub returns-in_err-content-clause-reads : goal.returns-in_err-content-clause-reads
returns-in_err-content-clause-reads g c =
    let p = err_from_is_err_and c.from_residual-in_err-content.result c.from_residual-in_err-content.ensures.1 in
    rw (p.1, p.2) (ends_read c.in_err-content.field-0.0 (g.T.Tree.asked c.args.tree.now) (g.T.Tree.asked c.content_at.new.tree) c.args.place c.in_ok-file.file c.in_ok-file.ensures c.content_at.ensures.asks c.in_err-content.ensures.asked_told)

pub returns-in-None-clause-reads : goal.returns-in-None-clause-reads
returns-in-None-clause-reads g c =
    asks_whole c.declared_in.result (g.T.Tree.asked c.args.tree.now) (g.T.Tree.asked c.content_at.new.tree) (c.args.place ∷ []) (asked_one (g.T.Tree.asked c.args.tree.now) (g.T.Tree.asked c.content_at.new.tree) c.args.place c.in_ok-file.file c.in_ok-file.ensures c.in_ok-content.ensures.asked)

pub returns-in-Some-clause-reads : goal.returns-in-Some-clause-reads
returns-in-Some-clause-reads g c =
    asks_whole c.declared_in-in-Some.result (g.T.Tree.asked c.args.tree.now) (g.T.Tree.asked c.content_at.new.tree) (c.args.place ∷ []) (asked_one (g.T.Tree.asked c.args.tree.now) (g.T.Tree.asked c.content_at.new.tree) c.args.place c.in_ok-file.file c.in_ok-file.ensures c.in_ok-content.ensures.asked)

use Rattle.std.proofs.Common.{◌∙◌, sym, ap, map}
use Rattle.std.proofs.lemmas.Bool.{not-true, not-false}
use Rattle.jl_finder.specs.Observed.{name_of}
use Rattle.jl_finder.proofs.Scans.{among_new, among_old, names_new}
use Rattle.jl_finder.proofs.directory.keep_module.Goals as goal

pub returns-then-not-branch-clause-gives : goal.returns-then-not-branch-clause-gives
returns-then-not-branch-clause-gives c = λ t k.
    let old = not-false _ (sym c.in_ok-insert.ensures.added ∙ c.if-not-branch.true) in
    rw (c.in_ok-twice.ensures) (among_old c.args.dir.now c.args.kept.modules.items c.args.found c.args.kept.names.keys c.in_ok-copy.field-0 t k c.in_ok-copy.ensures old)

pub returns-clause-names : goal.returns-clause-names
returns-clause-names c = λ k.
    let new = not-true _ (sym c.in_ok-insert.ensures.added ∙ c.if-not-branch.false) in
    c.in_ok-insert.ensures.keys ∙ names_new c.args.kept.modules.items c.args.found c.args.kept.names.keys c.in_ok-copy.field-0 k c.in_ok-copy.ensures new ∙ ap (λ os. map name_of os) (sym c.in_ok-push.ensures.items)

pub returns-clause-gives : goal.returns-clause-gives
returns-clause-gives c = λ t k.
    let new = not-true _ (sym c.in_ok-insert.ensures.added ∙ c.if-not-branch.false) in
    rw (c.in_ok-push.ensures.items) (among_new c.args.dir.now c.args.kept.modules.items c.args.found c.args.kept.names.keys c.in_ok-copy.field-0 t k c.in_ok-copy.ensures new)

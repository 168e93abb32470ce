use Rattle.std.proofs.Common.{◌∙◌, ap, refl}
use Rattle.jl_access.specs.declared.report.NoteKind.TheVariants as kinds
use Rattle.jl_layer.specs.Layers.{numbered}
use Rattle.jl_loads.proofs.Checking.{access_checked, checked_by}
use Rattle.jl_loads.proofs.loads.Loads.access_by.Goals as goal

pub returns-clause-accesses : goal.returns-clause-accesses
returns-clause-accesses c = λ to e.
    access_checked c.args.at _ _ c.args.from.now c.args.from.now to c.as_str.result.now c.in_ok-verdict.verdict _ refl (c.in_ok-verdict.ensures to e) (c.as_str.ensures.value ∙ c.in_ok-what.ensures to e)
    (checked_by c.args.at c.args.from.now to kinds.Class c.as_str.result.now c.in_ok-verdict.verdict c.in_ok-key.key _ _ _ (c.in_ok-key.ensures to e) c.in_ok-note_due.ensures.notes
    (c.judge.ensures.judged to (ap (λ cs. numbered cs c.args.c.0) c.note_due.ensures.classes ∙ e)))

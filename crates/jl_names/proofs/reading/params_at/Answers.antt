use Rattle.std.proofs.Common.{sym, ◌∙◌}
use Rattle.std.proofs.lemmas.Result.{err_from_is_err_and}
use Rattle.jl_names.proofs.ParamsLoop.{reads_first, reads_more, reads_fault, reads_all}
use Rattle.jl_names.proofs.reading.params_at.Goals as goal

pub loop-types-init : goal.loop-types-init
loop-types-init c = rw c.new-types.ensures.items (reads_first c.args.text.now c.requires)

pub returns-in_err-param-clause-exact : goal.returns-in_err-param-clause-exact
returns-in_err-param-clause-exact c =
    let p = err_from_is_err_and c.from_residual.result c.from_residual.ensures.1 in
    rw (p.1, p.2) (reads_fault c.args.text.now c.loop-types.types.items c.loop-types.taken c.loop-types.at c.in_err-param.field-0.0 c.loop-types.invariant
    (sym c.has_at.ensures ∙ c.loop-types-test.true) (sym c.in_err-param.ensures.exact))

pub loop-types-preserved : goal.loop-types-preserved
loop-types-preserved c =
    rw (c.in_ok-push.ensures.items, c.slots-taken.ensures) (reads_more c.args.text.now c.loop-types.types.items c.loop-types.taken c.loop-types.at c.in_ok-param.param c.in_ok-param.next c.loop-types.invariant
    (sym c.has_at.ensures ∙ c.loop-types-test.true) (sym c.in_ok-param.ensures.exact) c.in_ok-param.ensures.within.0 c.in_ok-param.ensures.within.1 c.in_ok-param.ensures.few)

pub returns-clause-exact : goal.returns-clause-exact
returns-clause-exact c =
    rw c.from_vec.ensures (reads_all c.args.text.now c.loop-types.types.items c.loop-types.taken c.loop-types.at c.loop-types.invariant (sym c.has_at.ensures ∙ c.loop-types-test.false))

use Rattle.jl_link.proofs.Choosing.{same_answer}
use Rattle.jl_link.proofs.selection.select.Goals as goal

pub returns-clause-selects : goal.returns-clause-selects
returns-clause-selects c = λ owner at is.
    same_answer c.args.loads.now c.args.class c.method_owner-at.result.0 owner c.method_owner-at.result.1 at c.select_for.result
    (c.numbers_name_one_member.ensures.methods c.args.loads.now c.args.method c.method_owner-at.result.0 owner c.method_owner-at.result.1 at c.method_owner-at.ensures is)
    c.select_for.ensures.selects

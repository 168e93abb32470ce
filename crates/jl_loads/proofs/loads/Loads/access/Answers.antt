use Rattle.std.proofs.Common.{◌≡◌, ◌∙◌}
use Rattle.jl_loads.proofs.Checking.{access_checked}
use Rattle.jl_loads.proofs.loads.Loads.access.Goals as goal

pub returns-clause-accesses : goal.returns-clause-accesses
returns-clause-accesses c = λ f t e g.
    let same : c.class_at.result.now ≡ f = cc (c.class_at.ensures.class, e) in
    access_checked c.args.at _ _ c.class_at.result.now f t c.as_str.result.now c.in_ok-verdict.verdict _ same (c.in_ok-verdict.ensures t g) (c.as_str.ensures.value ∙ c.in_ok-what.ensures t g) (c.checked.ensures.checks f t e g)

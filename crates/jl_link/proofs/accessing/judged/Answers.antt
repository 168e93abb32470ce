use Rattle.std.proofs.Common.{◌∙◌}
use Rattle.jl_link.proofs.accessing.judged.Goals as goal

pub returns-in-Ok-clause-judges : goal.returns-in-Ok-clause-judges
returns-in-Ok-clause-judges c = λ from to here there.
    let text = c.as_str.ensures.value ∙ c.in-Ok.ensures to there in
    let verdict = c.verdict_on-verdict.ensures from to here there in
    rw (text, verdict) at (c.checked.ensures.checks from to here there)

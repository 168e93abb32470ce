use Rattle.jl_words.proofs.Cutting.{spelled_over, spelled_all}
use Rattle.jl_words.proofs.texts.spelled.Goals as goal

pub returns-in_default-with_digit : goal.returns-in_default-with_digit
returns-in_default-with_digit c = spelled_over c.loop-rest.number c.loop-rest.rest.now _ c.in-len1-up.len_at_least c.loop-rest.invariant.0 c.in_default-with_digit.ensures

pub returns : goal.returns
returns c = spelled_all c.loop-rest.number c.loop-rest.rest.now _ c.in_default.len_below c.loop-rest.invariant.1 c.loop-rest.invariant.0

use Rattle.std.proofs.Common.{rules}
use Rattle.jl_words.proofs.Cutting.{listed_more, listed_ends}
use Rattle.jl_words.proofs.texts.listed.Goals as goal

pub loop-front-preserved : goal.loop-front-preserved
loop-front-preserved c = (search rules, listed_more c.loop-front.names c.in_ok-names.names c.loop-front.rest.now c.in-Some.front.now c.in-Some.others.now _ c.in-Some.ensures.exact c.in_ok-names.ensures c.loop-front.invariant.1)

pub returns : goal.returns
returns c = listed_ends c.loop-front.names c.with_name-2.result c.loop-front.rest.now _ c.in_default.ensures.exact c.with_name-2.ensures c.loop-front.invariant.1

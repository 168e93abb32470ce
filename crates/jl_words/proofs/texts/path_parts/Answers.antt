use Rattle.std.proofs.Common.{rules}
use Rattle.jl_words.proofs.Cutting.{path_more, path_ends}
use Rattle.jl_words.proofs.texts.path_parts.Goals as goal

pub loop-front-preserved : goal.loop-front-preserved
loop-front-preserved c = (search rules, path_more c.loop-front.parts c.in_ok-parts.parts c.loop-front.rest.now c.in-Some.front.now c.in-Some.others.now _ c.in-Some.ensures.exact c.in_ok-parts.ensures c.loop-front.invariant.1)

pub returns : goal.returns
returns c = path_ends c.loop-front.parts c.with_part-2.result c.loop-front.rest.now _ c.in_default.ensures.exact c.with_part-2.ensures c.loop-front.invariant.1

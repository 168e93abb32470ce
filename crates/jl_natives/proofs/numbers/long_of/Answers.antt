use Rattle.std.proofs.Common.{w64, rules, ◌∙◌}
use Rattle.jl_natives.proofs.Parsing.{parsed_is}
use Rattle.jl_natives.proofs.numbers.long_of.Goals as goal

pub returns : goal.returns
returns c = c.ok.ensures.value ∙ parsed_is w64 c.args.text.now c.deref.result.now c.parse.result (search rules) c.parse.ensures.value.0

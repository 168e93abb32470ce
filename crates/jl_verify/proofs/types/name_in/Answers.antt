use Rattle.std.proofs.Common.{Some, None, arith}
use Rattle.std.proofs.lemmas.Str.Pattern.{strip_prefix_char, strip_suffix_char}
use Rattle.jl_vtypes.proofs.Elements.{name_left, name_without_start}
use Rattle.jl_verify.proofs.types.name_in.Goals as goal

pub returns-in-None : goal.returns-in-None
returns-in-None c = name_without_start c.args.desc.now (strip_prefix_char 76 c.args.desc.now None c.in-None.ensures.cases (omega arith))

pub returns-in-Some : goal.returns-in-Some
returns-in-Some c =
    name_left c.args.desc.now c.in-Some.name.now c.strip_suffix.result
    (strip_prefix_char 76 c.args.desc.now (Some c.in-Some.name) c.in-Some.ensures.cases (omega arith))
    (strip_suffix_char 59 c.in-Some.name.now c.strip_suffix.result c.strip_suffix.ensures.cases (omega arith))

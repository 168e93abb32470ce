use Rattle.std.proofs.Common.{Some, arith}
use Rattle.std.proofs.lemmas.Str.Pattern.{strip_prefix_char}
use Rattle.jl_tree.proofs.Below.{strip_text, below_not_begun, below_after}
use Rattle.jl_tree.proofs.listing.part_below.Goals as goal

pub returns-in-None : goal.returns-in-None
returns-in-None c = below_not_begun c.args.dir.now c.args.path.now c.in-None.ensures.cases

pub returns-in-Some : goal.returns-in-Some
returns-in-Some c =
    below_after c.args.dir.now c.args.path.now c.in-Some.rest.now _
    (strip_text c.args.dir.now c.args.path.now (Some c.in-Some.rest) c.in-Some.ensures.cases)
    (strip_prefix_char 47 c.in-Some.rest.now _ c.strip_prefix-in-Some.ensures.cases (omega arith))

use Rattle.std.proofs.Common.{◌∙◌, sym}
use Rattle.std.specs.List.{list_any}
use Rattle.jl_access.specs.declared.statement.Reach.TheVariants.{All, To}
use Rattle.jl_access.specs.declared.table.About.TheVariants.{Opens}
use Rattle.jl_access.specs.Whole.{says}
use Rattle.jl_access.proofs.Lists.{or_then, or_else}
use Rattle.jl_access.proofs.Saying.{opens_to_asked}
use Rattle.jl_access.proofs.facts.Facts.says_opened_to.Goals as goal

pub returns-then-says : goal.returns-then-says
returns-then-says c =
    let ss = c.args.self.now.statements in
    let p = c.args.name.now in
    or_then (list_any (says (Opens c.args.m All) p) ss) (list_any (says (Opens c.args.m (To c.args.c)) p) ss) c.says.result c.says.ensures c.if-says.true
    ∙ sym (opens_to_asked c.args.m p ss c.args.c)

pub returns-else-says : goal.returns-else-says
returns-else-says c =
    let ss = c.args.self.now.statements in
    let p = c.args.name.now in
    or_else (list_any (says (Opens c.args.m All) p) ss) (list_any (says (Opens c.args.m (To c.args.c)) p) ss) c.says.result c.says-else-says.result c.says.ensures c.if-says.false c.says-else-says.ensures
    ∙ sym (opens_to_asked c.args.m p ss c.args.c)

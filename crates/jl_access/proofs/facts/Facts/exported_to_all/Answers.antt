use Rattle.std.proofs.Common.{◌∙◌, sym}
use Rattle.std.specs.List.{list_any}
use Rattle.jl_access.specs.Facts.{open_to_all, says_exports, reaches_all}
use Rattle.jl_access.proofs.Lists.{or_else}
use Rattle.jl_access.proofs.Saying.{exports_all_asked}
use Rattle.jl_access.proofs.facts.Facts.exported_to_all.Goals as goal

pub returns-else-open_to_all : goal.returns-else-open_to_all
returns-else-open_to_all c =
    let f = c.args.self.now in
    let p = c.args.name.now in
    or_else (open_to_all f c.args.m p) (list_any (says_exports reaches_all c.args.m p) f.statements) c.open_to_all.result c.says.result c.open_to_all.ensures c.if-open_to_all.false
    (c.says.ensures ∙ sym (exports_all_asked c.args.m p f.statements))

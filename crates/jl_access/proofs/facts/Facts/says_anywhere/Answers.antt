use Rattle.std.proofs.Common.{◌∙◌, ap}
use Rattle.std.specs.List.{list_any}
use Rattle.jl_access.specs.Whole.{says_anywhere}
use Rattle.jl_access.proofs.Stating.{anywhere_told, nowhere_told}
use Rattle.jl_access.proofs.facts.Facts.says_anywhere.Goals as goal

pub returns-in-Some : goal.returns-in-Some
returns-in-Some c =
    let i = c.self.inside in
    c.has_anywhere.ensures
    ∙ anywhere_told i.names.texts i.table.facts c.self.invariant.0.named c.args.about c.args.name.now c.in-Some.number c.in-Some.ensures
    ∙ ap (λ s. list_any (says_anywhere c.args.about c.args.name.now) s.statements) c.self.view_is

pub returns-in-None : goal.returns-in-None
returns-in-None c =
    let i = c.self.inside in
    nowhere_told i.names.texts i.table.facts c.self.invariant.0.named c.args.about c.args.name.now c.in-None.ensures
    ∙ ap (λ s. list_any (says_anywhere c.args.about c.args.name.now) s.statements) c.self.view_is

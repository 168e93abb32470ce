use Rattle.std.proofs.Common.{◌∙◌, ap}
use Rattle.std.specs.List.{list_any}
use Rattle.jl_access.specs.Facts.{says_reads}
use Rattle.jl_access.proofs.Stating.{reads_told}
use Rattle.jl_access.proofs.facts.Facts.says_reads.Goals as goal

pub returns : goal.returns
returns c =
    let i = c.self.inside in
    c.has.ensures
    ∙ reads_told i.names.texts i.table.facts c.self.invariant.0.named c.args.a c.args.b
    ∙ ap (λ s. list_any (says_reads c.args.a c.args.b) s.statements) c.self.view_is

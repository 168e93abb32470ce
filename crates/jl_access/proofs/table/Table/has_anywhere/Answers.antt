use Rattle.std.proofs.Common.{◌∙◌, ap}
use Rattle.std.specs.List.{list_any}
use Rattle.jl_access.specs.Kept.{same_fact, to_all}
use Rattle.jl_access.proofs.Same.{looked_anywhere}
use Rattle.jl_access.proofs.table.Table.has_anywhere.Goals as goal

pub returns : goal.returns
returns c =
    let i = c.self.inside in
    c.contains.ensures
    ∙ looked_anywhere i.list.items i.exact.keys i.anywhere.keys c.args.fact c.self.invariant.0
    ∙ ap (λ t. list_any (λ f. same_fact c.args.fact (to_all f)) t.facts) c.self.view_is

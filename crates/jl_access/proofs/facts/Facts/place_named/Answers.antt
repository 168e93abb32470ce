use Rattle.std.proofs.Common.{◌∙◌, ap, ◌++◌, ◌∷◌, []}
use Rattle.jl_access.specs.Whole.{said}
use Rattle.jl_access.proofs.Stating.{one_stated}
use Rattle.jl_access.proofs.facts.Facts.place_named.Goals as goal

pub returns-clause-adds : goal.returns-clause-adds
returns-clause-adds c =
    let i = c.self.inside in
    let number = c.place-number in
    record {
      modules = ap (λ s. s.modules) c.self.view_is;
      statements = one_stated i.names.texts number.new.self.texts i.table.facts c.place.new.self.facts c.args.about number.result c.args.name.items c.self.invariant.0.named number.ensures.front number.ensures.placed c.place.ensures.facts
          ∙ ap (λ s. s.statements ++ said c.args.about c.args.name.items ∷ []) c.self.view_is;
    }

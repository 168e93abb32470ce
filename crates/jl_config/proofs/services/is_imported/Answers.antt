use Rattle.std.proofs.Common.{◌↔◌, rules, sym, subst, Bool, IsTrue}
use Rattle.std.proofs.lemmas.Fn.{always_returns_same}
use Rattle.jl_logic.specs.Order.{name_cmp}
use Rattle.jl_config.specs.Imported.{IsImported}
use Rattle.jl_config.specs.declared.imports.Exported.{Exported}
use Rattle.jl_config.proofs.ServiceFaults.{searched_right}
use Rattle.jl_config.proofs.services.is_imported.Goals as goal

pub returns : goal.returns
returns c =
    subst (λ (t : Bool). IsTrue t ↔ IsImported c.args.exported.now c.args.name.now) (sym c.is_ok.ensures.value)
    (searched_right c.args.name.now c.args.exported.now c.binary_search_by.result c.requires c.binary_search_by.ensures.bound (c.binary_search_by.ensures.position (λ (e : Exported). name_cmp e.«package» c.args.name.now) (always_returns_same _ _ _ (λ a r q k. search rules))))

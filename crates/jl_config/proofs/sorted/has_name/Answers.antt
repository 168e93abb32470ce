use Rattle.std.proofs.Common.{◌↔◌, rules, sym, subst, Bool, IsTrue, Contains, List, ℕ}
use Rattle.std.proofs.lemmas.Fn.{always_returns_same}
use Rattle.jl_logic.specs.Order.{name_cmp}
use Rattle.jl_config.proofs.NameSearch.{name_searched}
use Rattle.jl_config.proofs.sorted.has_name.Goals as goal

pub returns : goal.returns
returns c =
    subst (λ (t : Bool). IsTrue t ↔ Contains c.args.sorted.now c.args.name.now) (sym c.is_ok.ensures.value)
    (name_searched c.args.name.now c.args.sorted.now c.binary_search_by.result c.requires c.binary_search_by.ensures.bound (c.binary_search_by.ensures.position (λ (n : List ℕ). name_cmp n c.args.name.now) (always_returns_same _ _ _ (λ a r q k. search rules))))

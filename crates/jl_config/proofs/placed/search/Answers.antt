use Rattle.std.proofs.Common.{rules}
use Rattle.std.proofs.lemmas.Fn.{always_returns_same}
use Rattle.jl_logic.specs.Order.{name_cmp}
use Rattle.jl_config.specs.declared.placed.Placed.{Placed}
use Rattle.jl_config.proofs.MemberOrder.{is_sought}
use Rattle.jl_config.proofs.placed.search.Goals as goal

pub returns : goal.returns
returns c = is_sought c.args.name.now c.args.placed.now c.binary_search_by.result c.requires c.binary_search_by.ensures.bound (c.binary_search_by.ensures.position (λ (x : Placed). name_cmp x.name c.args.name.now) (always_returns_same _ _ _ (λ a r q k. search rules)))

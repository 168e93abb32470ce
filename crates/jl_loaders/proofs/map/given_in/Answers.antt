use Rattle.std.proofs.Common.{rules, sym}
use Rattle.std.proofs.lemmas.Fn.{always_returns_same}
use Rattle.jl_logic.specs.Order.{name_cmp}
use Rattle.jl_loaders.proofs.Pairs.{Pair, label, found_in, missing_in}
use Rattle.jl_loaders.proofs.map.given_in.Goals as goal

pub returns-in-Ok : goal.returns-in-Ok
returns-in-Ok c = sym (found_in c.args.name.now c.args.pairs.now c.in-Ok.at c.index-pairs-at.result c.requires c.in-Ok.ensures.bound (c.in-Ok.ensures.position (λ (x : Pair). name_cmp (label x) c.args.name.now) (always_returns_same _ _ _ (λ a r q k. search rules)) c.index-pairs-at.result))

pub returns-in-Err : goal.returns-in-Err
returns-in-Err c = sym (missing_in c.args.name.now c.args.pairs.now c.in-Err.field-0 c.requires (c.in-Err.ensures.position (λ (x : Pair). name_cmp (label x) c.args.name.now) (always_returns_same _ _ _ (λ a r q k. search rules))))

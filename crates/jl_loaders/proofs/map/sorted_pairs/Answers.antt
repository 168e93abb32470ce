use Rattle.std.proofs.Common.{rules}
use Rattle.std.specs.Ordering.{is_lt}
use Rattle.std.proofs.lemmas.Fn.{always_returns_same}
use Rattle.jl_loaders.specs.Loaders.{package_cmp}
use Rattle.jl_loaders.proofs.Pairs.{Pair, packages_rank}
use Rattle.jl_loaders.proofs.map.sorted_pairs.Goals as goal

pub returns : goal.returns
returns c = record {
  ordered = c.in_ok-sort_by.ensures.sorted (λ (x y : Pair). is_lt (package_cmp x y)) packages_rank (always_returns_same _ _ _ (λ a r q k. search rules));
  stable = c.in_ok-sort_by.ensures.stable (λ (x y : Pair). is_lt (package_cmp x y)) packages_rank (always_returns_same _ _ _ (λ a r q k. search rules));
}

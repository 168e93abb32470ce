use Rattle.std.proofs.lemmas.List.Filters.{dedup_is}
use Rattle.std.proofs.lemmas.List.Kept.{IsStrictlySortedBy-dedup, Any-dedup, Contains-from_dedup}
use Rattle.std.proofs.lemmas.List.Sorted.{Contains-permutation, IsPermutation-sym}
use Rattle.jl_config.proofs.ReadOrders.{strictly_rises}
use Rattle.jl_config.proofs.sorted.sorted_set.Goals as goal

pub returns-clause-rise : goal.returns-clause-rise
returns-clause-rise g c =
    let is = dedup_is _ _ _ c.dedup.ensures.filtered in
    rw is (strictly_rises g.T.Ord.cmp _ (IsStrictlySortedBy-dedup g.met.T.Ord.total g.met.T.Ord.matches_eq _ c.in_ok-sort.ensures.sorted))

pub returns-clause-only : goal.returns-clause-only
returns-clause-only g c =
    let is = dedup_is _ _ _ c.dedup.ensures.filtered in
    λ x h. Contains-permutation _ _ x (IsPermutation-sym _ _ c.in_ok-sort.ensures.permutation) (Contains-from_dedup _ _ x (rw is at h))

pub returns-clause-all : goal.returns-clause-all
returns-clause-all g c =
    let is = dedup_is _ _ _ c.dedup.ensures.filtered in
    λ x h. rw is (Any-dedup g.met.T.Eq.laws _ x (Contains-permutation _ _ x c.in_ok-sort.ensures.permutation h))

use Rattle.std.proofs.Common.{◌∙◌, ◌++◌, List, ap, ap₂, sym, subst}
use Rattle.jl_logic.specs.Order.{RisesBy}
use Rattle.jl_loaders.specs.Loaders.{given_for, package_cmp}
use Rattle.jl_loaders.proofs.Pairs.{Pair, dedup_rises, given_dedup, given_sorted}
use Rattle.jl_loaders.proofs.map.map_of.Goals as goal

pub returns-clause-rises : goal.returns-clause-rises
returns-clause-rises c = subst (RisesBy package_cmp) (sym c.first_of_each.ensures) (dedup_rises _ c.in_ok-sorted.ensures.ordered)

pub returns-clause-gives : goal.returns-clause-gives
returns-clause-gives c = λ p.
    ap (given_for p) c.first_of_each.ensures
    ∙ given_dedup p c.in_ok-sorted.sorted.items
    ∙ given_sorted p c.in_ok-pairs.pairs.items c.in_ok-sorted.sorted.items c.in_ok-sorted.ensures.stable
    ∙ ap (given_for p) (c.in_ok-pairs.ensures ∙ ap₂ (λ (xs ys : List Pair). xs ++ ys) c.into_vec.ensures c.into_vec-2.ensures)

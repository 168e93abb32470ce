use Rattle.std.proofs.Common.{◌∙◌, List, ap₂, sym}
use Rattle.std.specs.Option.{option_or}
use Rattle.jl_loaders.specs.Loaders.{given_for}
use Rattle.jl_loaders.proofs.Pairs.{Pair, given_append}
use Rattle.jl_loaders.proofs.parts.LoaderParts.new.Goals as goal

pub invariant_of-result : goal.invariant_of-result
invariant_of-result c = record {
  rises = c.in_ok-map.ensures.rises;
  gives = λ p.
      c.in_ok-map.ensures.gives p
      ∙ given_append p c.args.own c.args.seen
      ∙ ap₂ (λ (xs ys : List Pair). option_or (given_for p xs) (given_for p ys)) (sym c.of-own_pairs.ensures) (sym c.of-seen_pairs.ensures);
}

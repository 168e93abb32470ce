use Rattle.std.proofs.Common.{◌≡◌, ℕ, List, drop}
use Rattle.std.specs.Option.{option_or}
use Rattle.jl_logic.specs.Order.{RisesBy}
use Rattle.jl_config.specs.Placed.{placed_cmp, place_in, marked_place}
use Rattle.jl_config.proofs.placed.placed_of.Given as goal

abbrev pub invariant-loop-at : goal.invariant-loop-at
invariant-loop-at l = record {
  rise : RisesBy placed_cmp l.placed.items;
  finds : (q : List ℕ) → option_or (place_in q l.placed.items) (marked_place q l.at (drop l.at l.candidates) (drop l.at l.marks)) ≡ marked_place q 0 l.candidates l.marks;
}

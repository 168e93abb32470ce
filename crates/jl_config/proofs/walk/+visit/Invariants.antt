use Rattle.std.proofs.Common.{◌≡◌, take}
use Rattle.jl_config.specs.Located.{parents_below, preorder}
use Rattle.jl_config.specs.Walked.{with_numbers}
use Rattle.jl_config.proofs.walk.+visit.Given as goal

abbrev pub decreases-visit : goal.decreases-visit
decreases-visit l = l.child.0

abbrev pub invariant-loop-parent : goal.invariant-loop-parent
invariant-loop-parent l = record {
  room : l.visited.room ≡ l.fn.visited.room;
  numbers : l.visited.numbers ≡ with_numbers l.fn.visited.numbers (preorder l.child.0 l.known (parents_below l.child (take l.parent-index l.parents)));
}

use Rattle.std.proofs.Common.{◌≡◌, ◌-◌, ◌≤◌, [], length}
use Rattle.jl_code.specs.Walking.{walk_on}
use Rattle.jl_code.proofs.Walks.{left}
use Rattle.jl_code.proofs.walking.walk.Given as goal

abbrev pub invariant-loop-at : goal.invariant-loop-at
invariant-loop-at l = record {
  within : l.at ≤ length l.code;
  few : length l.instructions.items ≤ l.at;
  walks : walk_on l.pool l.code l.instructions.items (left l.code l.instructions.items) l.at ≡ walk_on l.pool l.code [] (length l.code) 0;
}

abbrev pub decreases-loop-at : goal.decreases-loop-at
decreases-loop-at l = length l.code - l.at

use Rattle.std.proofs.Common.{◌≡◌, ◌≤◌, ◌+◌, ◌*◌, length}
use Rattle.jl_names.specs.Descriptors as types
use Rattle.jl_code.proofs.types.slots.Given as goal

abbrev pub invariant-loop-rest : goal.invariant-loop-rest
invariant-loop-rest l = record {
  counted : l.count + types.slots l.rest ≡ types.slots l.all;
  few : l.count + 2 * length l.rest ≤ 2 * length l.all;
}

abbrev pub decreases-loop-rest : goal.decreases-loop-rest
decreases-loop-rest l = length l.rest

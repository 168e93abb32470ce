use Rattle.std.proofs.Common.{◌≡◌, ◌+◌, ◌≤◌, true, drop, length}
use Rattle.jl_names.specs.Descriptors as readings
use Rattle.jl_names.proofs.reading.name_end.Given as goal

abbrev pub invariant-loop-rest : goal.invariant-loop-rest
invariant-loop-rest l = record {
  reads : readings.name_end l.is_fresh l.rest l.at ≡ readings.name_end true (drop l.from l.text) l.from;
  passed : l.from ≤ l.at;
  within : l.at + length l.rest ≡ length l.text;
}

abbrev pub decreases-loop-rest : goal.decreases-loop-rest
decreases-loop-rest l = length l.rest

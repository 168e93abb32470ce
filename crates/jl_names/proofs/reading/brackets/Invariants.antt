use Rattle.std.proofs.Common.{◌≡◌, ◌+◌, length}
use Rattle.jl_names.specs.Descriptors.{brackets}
use Rattle.jl_names.proofs.reading.brackets.Given as goal

abbrev pub invariant-loop-rest : goal.invariant-loop-rest
invariant-loop-rest l = record {
  counted : l.count + brackets l.rest ≡ brackets l.text;
  within : l.count + length l.rest ≡ length l.text;
}

abbrev pub decreases-loop-rest : goal.decreases-loop-rest
decreases-loop-rest l = length l.rest

use Rattle.std.proofs.Common.{◌≡◌, length}
use Rattle.jl_names.specs.Text.{has_no_lone_surrogate}
use Rattle.jl_names.proofs.text.is_paired.Given as goal

abbrev pub invariant-loop-rest : goal.invariant-loop-rest
invariant-loop-rest l = has_no_lone_surrogate l.rest ≡ has_no_lone_surrogate l.units

abbrev pub decreases-loop-rest : goal.decreases-loop-rest
decreases-loop-rest l = length l.rest

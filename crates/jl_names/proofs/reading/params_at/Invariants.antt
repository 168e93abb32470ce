use Rattle.std.proofs.Common.{◌-◌, length}
use Rattle.jl_names.proofs.ParamsLoop.{Reads}
use Rattle.jl_names.proofs.reading.params_at.Given as goal

abbrev pub invariant-loop-types : goal.invariant-loop-types
invariant-loop-types l = Reads l.text l.types.items l.taken l.at

abbrev pub decreases-loop-types : goal.decreases-loop-types
decreases-loop-types l = length l.text - l.at

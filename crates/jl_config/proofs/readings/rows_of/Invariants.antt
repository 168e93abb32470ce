use Rattle.std.proofs.Common.{◌≡◌, take, map}
use Rattle.jl_config.specs.ReadRows.{passed_places}
use Rattle.jl_config.proofs.readings.rows_of.Given as goal

abbrev pub invariant-loop-candidate : goal.invariant-loop-candidate
invariant-loop-candidate l = l.rows.items ≡ map (passed_places l.scene l.marks) (take l.candidate-index l.candidates)

use Rattle.std.proofs.Common.{◌≡◌, take, map}
use Rattle.jl_config.specs.Cycles.{edge_row}
use Rattle.jl_config.proofs.cycle.rows_of_edges.Given as goal

abbrev pub invariant-loop-candidate : goal.invariant-loop-candidate
invariant-loop-candidate l = l.rows.items ≡ map (edge_row l.scene l.marks) (take l.candidate-index l.scene.candidates)

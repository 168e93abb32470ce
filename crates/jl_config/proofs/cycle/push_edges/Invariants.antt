use Rattle.std.proofs.Common.{◌≡◌, ◌++◌, take, filter_map}
use Rattle.jl_config.specs.Cycles.{edge_place}
use Rattle.jl_config.proofs.cycle.push_edges.Given as goal

abbrev pub invariant-loop-entry : goal.invariant-loop-entry
invariant-loop-entry l = l.row.items ≡ l.fn.row.items ++ filter_map (edge_place l.scene l.marks) (take l.entry-index l.entries)

use Rattle.std.proofs.Common.{◌≡◌, ◌++◌, take}
use Rattle.std.specs.List.{flat_map}
use Rattle.jl_tables.proofs.writing.push_each.Given as goal

abbrev pub invariant-loop-row : goal.invariant-loop-row
invariant-loop-row g l = l.bytes.items ≡ l.initial.bytes.items ++ flat_map (g.W.RowWriter.written l.pool) (take l.row-index l.rows)

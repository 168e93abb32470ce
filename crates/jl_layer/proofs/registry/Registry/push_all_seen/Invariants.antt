use Rattle.std.proofs.Common.{◌≡◌, [], List, length, take}
use Rattle.jl_prim.specs.declared.numbers.ModuleId.{ModuleId}
use Rattle.jl_layer.specs.LoaderRows.{rows_of}
use Rattle.jl_layer.proofs.registry.Registry.push_all_seen.Given as goal

abbrev pub invariant-loop-reader : goal.invariant-loop-reader
invariant-loop-reader l = (ms : List ModuleId) → l.fn.rows.items ≡ rows_of l.self l.first (length l.fn.rows.items) ms [] → l.rows.items ≡ rows_of l.self l.first (length l.fn.rows.items) ms (take l.reader-index l.reads)

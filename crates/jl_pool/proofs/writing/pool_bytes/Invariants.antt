use Rattle.std.proofs.Common.{◌≡◌, ◌++◌, length, take}
use Rattle.std.specs.List.{flat_map}
use Rattle.jl_reading.specs.Reading.{two}
use Rattle.jl_pool.specs.Spelling.{entry_bytes}
use Rattle.jl_pool.proofs.writing.pool_bytes.Given as goal

abbrev pub invariant-loop-entry : goal.invariant-loop-entry
invariant-loop-entry l = l.bytes.items ≡ two (length l.entries) ++ flat_map entry_bytes (take l.entry-index l.entries)

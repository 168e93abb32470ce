use Rattle.std.proofs.Common.{◌≡◌, ◌++◌, take, map}
use Rattle.jl_config.specs.ReadRows.{read_between}
use Rattle.jl_config.proofs.reads.push_reads.Given as goal

abbrev pub invariant-loop-place : goal.invariant-loop-place
invariant-loop-place l = l.reads.items ≡ l.initial.reads.items ++ map (read_between l.scene l.reading.reader) (take l.place-index l.place-items)

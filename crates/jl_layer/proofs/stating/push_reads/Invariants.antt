use Rattle.std.proofs.Common.{◌≡◌, ◌++◌, take, map}
use Rattle.jl_layer.specs.Meaning.{stated_read}
use Rattle.jl_layer.proofs.stating.push_reads.Given as goal

abbrev pub invariant-loop-reader : goal.invariant-loop-reader
invariant-loop-reader l = l.statements.items ≡ l.fn.statements.items ++ map stated_read (take l.reader-index l.reads)

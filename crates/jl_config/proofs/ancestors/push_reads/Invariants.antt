use Rattle.std.proofs.Common.{◌≡◌, ◌++◌, take}
use Rattle.jl_config.specs.Lineages.{reads_with}
use Rattle.jl_config.proofs.ancestors.push_reads.Given as goal

abbrev pub invariant-loop-read : goal.invariant-loop-read
invariant-loop-read l = l.all.items ≡ l.fn.all.items ++ reads_with l.config (take l.read-index l.reads)

use Rattle.std.proofs.Common.{◌≡◌, ◌++◌, take}
use Rattle.jl_config.specs.Lineages.{numbered_candidates, numbered_reads}
use Rattle.jl_config.proofs.ancestors.push_ancestors.Given as goal

abbrev pub invariant-loop-number : goal.invariant-loop-number
invariant-loop-number l = record {
  candidates : l.candidates.items ≡ l.fn.candidates.items ++ numbered_candidates l.known (take l.number-index l.number-items);
  reads : l.reads.items ≡ l.fn.reads.items ++ numbered_reads l.known (take l.number-index l.number-items);
}

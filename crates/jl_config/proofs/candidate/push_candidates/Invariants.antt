use Rattle.std.proofs.Common.{◌≡◌, ◌++◌, take}
use Rattle.jl_config.specs.Located.{candidates_of}
use Rattle.jl_config.proofs.candidate.push_candidates.Given as goal

abbrev pub invariant-loop-o : goal.invariant-loop-o
invariant-loop-o l = l.candidates.items ≡ l.fn.candidates.items ++ candidates_of l.config (take l.o-index l.modules)

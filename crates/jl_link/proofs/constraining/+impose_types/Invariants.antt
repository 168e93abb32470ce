use Rattle.std.proofs.Common.{length}
use Rattle.jl_link.proofs.constraining.+impose_types.Given as goal

abbrev pub decreases-impose_types : goal.decreases-impose_types
decreases-impose_types l = length l.types.now

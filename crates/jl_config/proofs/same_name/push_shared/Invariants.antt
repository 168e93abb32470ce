use Rattle.jl_config.specs.Collected.{Adds, IsSharedAt}
use Rattle.jl_config.proofs.Collects.{Below}
use Rattle.jl_config.proofs.same_name.push_shared.Given as goal

abbrev pub invariant-loop-at : goal.invariant-loop-at
invariant-loop-at l = Adds l.initial.shared.items l.shared.items (Below (IsSharedAt l.scene l.reading) l.at)

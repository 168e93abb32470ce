use Rattle.jl_config.specs.Collected.{Adds}
use Rattle.jl_config.specs.Imported.{IsPackageSharedAt}
use Rattle.jl_config.proofs.Collects.{Below}
use Rattle.jl_config.proofs.packages.push_shared.Given as goal

abbrev pub invariant-loop-at : goal.invariant-loop-at
invariant-loop-at l = Adds l.initial.shared.items l.shared.items (Below (IsPackageSharedAt l.scene l.imports) l.at)

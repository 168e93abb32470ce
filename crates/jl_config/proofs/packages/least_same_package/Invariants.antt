use Rattle.std.proofs.Common.{take, []}
use Rattle.jl_config.specs.Collected.{Adds, Among}
use Rattle.jl_config.specs.Imported.{IsPackageShared}
use Rattle.jl_config.proofs.packages.least_same_package.Given as goal

abbrev pub invariant-loop-imported : goal.invariant-loop-imported
invariant-loop-imported l = Adds [] l.shared.items (Among (IsPackageShared l.scene) (take l.imported-index l.imports))

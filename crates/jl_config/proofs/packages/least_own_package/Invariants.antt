use Rattle.std.proofs.Common.{take, []}
use Rattle.jl_config.specs.Collected.{Adds, Among}
use Rattle.jl_config.specs.Imported.{IsOwnedIn}
use Rattle.jl_config.proofs.packages.least_own_package.Given as goal

abbrev pub invariant-loop-imported : goal.invariant-loop-imported
invariant-loop-imported l = Adds [] l.owned.items (Among (IsOwnedIn l.scene) (take l.imported-index l.imports))

use Rattle.std.proofs.Common.{take, []}
use Rattle.jl_config.specs.Collected.{Adds, Among}
use Rattle.jl_config.specs.Imported.{IsUnseenIn}
use Rattle.jl_config.proofs.services.least_service.Given as goal

abbrev pub invariant-loop-imported : goal.invariant-loop-imported
invariant-loop-imported l = Adds [] l.unseen.items (Among (IsUnseenIn l.scene) (take l.imported-index l.imports))

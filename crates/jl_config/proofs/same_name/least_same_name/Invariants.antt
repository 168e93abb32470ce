use Rattle.std.proofs.Common.{take, []}
use Rattle.jl_config.specs.Collected.{Adds, Among, IsShared}
use Rattle.jl_config.proofs.same_name.least_same_name.Given as goal

abbrev pub invariant-loop-reading : goal.invariant-loop-reading
invariant-loop-reading l = Adds [] l.shared.items (Among (IsShared l.scene) (take l.reading-index l.readings))

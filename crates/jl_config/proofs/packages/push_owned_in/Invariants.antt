use Rattle.std.proofs.Common.{take}
use Rattle.jl_config.specs.Collected.{Adds, Among}
use Rattle.jl_config.specs.Imported.{IsOwned}
use Rattle.jl_config.proofs.packages.push_owned_in.Given as goal

abbrev pub invariant-loop-exported : goal.invariant-loop-exported
invariant-loop-exported l = Adds l.initial.owned.items l.owned.items (Among (IsOwned l.candidate) (take l.exported-index l.exported-items))

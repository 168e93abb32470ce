use Rattle.std.proofs.Common.{take}
use Rattle.jl_config.specs.Collected.{Adds, Among}
use Rattle.jl_config.specs.Imported.{IsUnseen}
use Rattle.jl_config.proofs.services.push_unseen_uses.Given as goal

abbrev pub invariant-loop-service : goal.invariant-loop-service
invariant-loop-service l = Adds l.initial.unseen.items l.unseen.items (Among (IsUnseen l.candidate l.exported) (take l.service-index l.service-items))

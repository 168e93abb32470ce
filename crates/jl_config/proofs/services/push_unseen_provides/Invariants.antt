use Rattle.std.proofs.Common.{take}
use Rattle.jl_config.specs.Collected.{Adds, Among}
use Rattle.jl_config.specs.Imported.{IsUnseenProvided}
use Rattle.jl_config.proofs.services.push_unseen_provides.Given as goal

abbrev pub invariant-loop-provided : goal.invariant-loop-provided
invariant-loop-provided l = Adds l.initial.unseen.items l.unseen.items (Among (IsUnseenProvided l.candidate l.exported) (take l.provided-index l.provided-items))

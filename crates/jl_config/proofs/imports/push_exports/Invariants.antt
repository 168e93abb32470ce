use Rattle.std.proofs.Common.{take}
use Rattle.jl_config.specs.Collected.{Adds, Among}
use Rattle.jl_config.specs.Imported.{IsGranted}
use Rattle.jl_config.proofs.imports.push_exports.Given as goal

abbrev pub invariant-loop-grant : goal.invariant-loop-grant
invariant-loop-grant l = Adds l.initial.exported.items l.exported.items (Among (IsGranted l.reader l.candidate) (take l.grant-index l.grant-items))

use Rattle.std.proofs.Common.{take, []}
use Rattle.jl_config.specs.Collected.{Adds, Among}
use Rattle.jl_config.specs.Imported.{IsExportedAt}
use Rattle.jl_config.proofs.imports.exported_to.Given as goal

abbrev pub invariant-loop-place : goal.invariant-loop-place
invariant-loop-place l = Adds [] l.exported.items (Among (IsExportedAt l.scene l.reading.reader) (take l.place-index l.place-items))

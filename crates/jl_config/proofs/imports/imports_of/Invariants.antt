use Rattle.jl_config.proofs.ImportLists.{AreImportsSoFar}
use Rattle.jl_config.proofs.imports.imports_of.Given as goal

abbrev pub invariant-loop-reading : goal.invariant-loop-reading
invariant-loop-reading l = AreImportsSoFar l.scene l.readings l.reading-index l.imports.items

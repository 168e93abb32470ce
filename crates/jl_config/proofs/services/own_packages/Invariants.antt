use Rattle.std.proofs.Common.{take}
use Rattle.jl_config.specs.Collected.{Adds, Among}
use Rattle.jl_config.specs.Imported.{IsOwnExport}
use Rattle.jl_config.proofs.services.own_packages.Given as goal

abbrev pub invariant-loop-grant : goal.invariant-loop-grant
invariant-loop-grant l = Adds l.initial.own.items l.own.items (Among (IsOwnExport l.candidate) (take l.grant-index l.grant-items))

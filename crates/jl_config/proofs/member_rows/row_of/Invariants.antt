use Rattle.std.proofs.Common.{◌≡◌, ◌++◌, take, flat_map}
use Rattle.jl_config.specs.MemberRows.{needed_places}
use Rattle.jl_config.specs.Tables.{listed}
use Rattle.jl_config.proofs.member_rows.row_of.Given as goal

abbrev pub invariant-loop-service : goal.invariant-loop-service
invariant-loop-service l = l.row.items ≡ needed_places l.scene l.candidate ++ flat_map (listed l.table) (take l.service-index l.candidate.observed.declaration.uses)

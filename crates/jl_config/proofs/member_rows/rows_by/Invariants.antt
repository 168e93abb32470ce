use Rattle.std.proofs.Common.{◌≡◌, take, map}
use Rattle.jl_config.specs.MemberRows.{member_row}
use Rattle.jl_config.specs.Tables.{listed}
use Rattle.jl_config.proofs.member_rows.rows_by.Given as goal

abbrev pub invariant-loop-candidate : goal.invariant-loop-candidate
invariant-loop-candidate l = l.rows.items ≡ map (member_row l.scene (listed l.table)) (take l.candidate-index l.scene.candidates)

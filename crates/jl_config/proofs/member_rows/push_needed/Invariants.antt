use Rattle.std.proofs.Common.{◌≡◌, ◌++◌, take, filter_map}
use Rattle.jl_config.specs.MemberRows.{needed_place}
use Rattle.jl_config.proofs.member_rows.push_needed.Given as goal

abbrev pub invariant-loop-entry : goal.invariant-loop-entry
invariant-loop-entry l = l.row.items ≡ l.fn.row.items ++ filter_map (needed_place l.scene) (take l.entry-index l.candidate.observed.declaration.required)

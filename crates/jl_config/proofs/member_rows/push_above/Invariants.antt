use Rattle.std.proofs.Common.{◌≡◌, ◌++◌, drop}
use Rattle.jl_config.specs.MemberRows.{above_from}
use Rattle.jl_config.proofs.member_rows.push_above.Given as goal

abbrev pub invariant-loop-at : goal.invariant-loop-at
invariant-loop-at l = l.starts.items ++ above_from l.scene l.at (drop l.at l.scene.candidates) ≡ l.fn.starts.items ++ above_from l.scene 0 l.scene.candidates

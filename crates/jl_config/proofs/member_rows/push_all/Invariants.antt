use Rattle.std.proofs.Common.{◌≡◌, ◌++◌, take}
use Rattle.jl_config.proofs.member_rows.push_all.Given as goal

abbrev pub invariant-loop-place : goal.invariant-loop-place
invariant-loop-place l = l.row.items ≡ l.fn.row.items ++ take l.place-index l.places

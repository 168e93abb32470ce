use Rattle.std.proofs.Common.{◌≡◌, take}
use Rattle.jl_config.specs.MemberRows.{modules_at}
use Rattle.jl_config.proofs.resolution.copies_at.Given as goal

abbrev pub invariant-loop-place : goal.invariant-loop-place
invariant-loop-place l = l.copies.items ≡ modules_at l.scene (take l.place-index l.places)

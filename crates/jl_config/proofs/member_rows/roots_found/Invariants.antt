use Rattle.std.proofs.Common.{◌≡◌, take, filter_map}
use Rattle.jl_config.specs.MemberRows.{found_place}
use Rattle.jl_config.proofs.member_rows.roots_found.Given as goal

abbrev pub invariant-loop-name : goal.invariant-loop-name
invariant-loop-name l = l.places.items ≡ filter_map (found_place l.scene) (take l.name-index l.scene.roots)

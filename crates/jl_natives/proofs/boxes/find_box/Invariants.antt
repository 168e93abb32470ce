use Rattle.std.proofs.Common.{◌≡◌, map, drop, ◌==◌}
use Rattle.std.specs.List.{position_from}
use Rattle.jl_natives.specs.Boxes.{place_of, View}
use Rattle.jl_natives.proofs.boxes.find_box.Given as goal

abbrev pub invariant-loop-place : goal.invariant-loop-place
invariant-loop-place g l = let views = map {B = View} (λ b. (goal.NativeOp-dyn g (b.vtable, b.value)).view b.value) l.natives.items in place_of l.row views ≡ position_from (λ v. v.row == l.row) l.place (drop l.place views)

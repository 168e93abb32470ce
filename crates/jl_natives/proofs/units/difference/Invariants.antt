use Rattle.std.proofs.Common.{◌≡◌, drop, length, ◌-ℤ◌, pos}
use Rattle.jl_natives.specs.Rows.{difference, wrapped}
use Rattle.jl_natives.proofs.units.difference.Given as goal

abbrev pub invariant-loop-x : goal.invariant-loop-x
invariant-loop-x l =
    let other = wrapped (pos (length l.text) -ℤ pos (length l.other)) in
    let at = length l.yielded in
    difference (drop at l.text) (drop at l.other) other ≡ difference l.text l.other other

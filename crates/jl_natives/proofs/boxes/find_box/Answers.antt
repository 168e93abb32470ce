use Rattle.std.proofs.Common.{sym, ◌∙◌, rules, add-one}
use Rattle.jl_natives.proofs.Places.{found_there, passed_over, has_row_there}
use Rattle.jl_natives.proofs.boxes.find_box.Goals as goal

pub returns-then-is_of-clause-first : goal.returns-then-is_of-clause-first
returns-then-is_of-clause-first g c = sym (c.loop-place.invariant ∙ found_there _ c.args.row c.args.natives.now.items c.loop-place.place c.native-item.result (search rules) (search rules) (search rules) c.loop-place.place)

pub returns-then-is_of-clause-has_row : goal.returns-then-is_of-clause-has_row
returns-then-is_of-clause-has_row g c = has_row_there _ c.args.row c.args.natives.now.items c.loop-place.place c.native-item.result (search rules) (search rules) (search rules)

pub loop-place-preserved : goal.loop-place-preserved
loop-place-preserved g c = rw add-one (c.loop-place.invariant ∙ passed_over _ c.args.row c.args.natives.now.items c.loop-place.place c.native-item.result (search rules) (search rules) (search rules) c.loop-place.place)

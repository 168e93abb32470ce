use Rattle.std.proofs.Common.{subst, Ok}
use Rattle.jl_loads.specs.Ends.{Leaves, Tells}
use Rattle.jl_link.specs.Constraining as constraining
use Rattle.jl_link.proofs.Imposed.{imposed_leaves, clash_modules, clash_leaves, as_before, constrained_moves, before_moves}
use Rattle.jl_link.proofs.constraining.impose.Goals as goal

pub returns-in-Ok-clause-imposes : goal.returns-in-Ok-clause-imposes
returns-in-Ok-clause-imposes c =
    subst (λ n. Leaves (constraining.impose c.args.loads.now n c.args.a c.args.b) (Ok tt) c.impose.new.self) c.as_bytes.ensures.value
    (imposed_leaves c.args.loads.now c.as_bytes.result.now c.args.a c.args.b c.is_sound.ensures c.requires.one c.requires.other c.impose.new.self c.in-Ok.ensures.others c.in-Ok.ensures.adds c.in-Ok.ensures.stands)

pub clash-requires-clause-one : goal.clash-requires-clause-one
clash-requires-clause-one c =
    let refused = rw c.in-Err-Clash.field-0-is at c.in-Err-Clash.ensures.refused in
    rw (as_before c.args.loads.now c.impose.new.self c.in-Err-Clash.ensures.others c.in-Err-Clash.ensures.kept)
    ((clash_modules c.args.loads.now c.as_bytes.result.now c.args.a c.args.b c.is_sound.ensures c.requires.one c.requires.other c.in-Err-Clash.field-0-0 c.in-Err-Clash.one c.in-Err-Clash.other refused).0)

pub clash-requires-clause-other : goal.clash-requires-clause-other
clash-requires-clause-other c =
    let refused = rw c.in-Err-Clash.field-0-is at c.in-Err-Clash.ensures.refused in
    rw (as_before c.args.loads.now c.impose.new.self c.in-Err-Clash.ensures.others c.in-Err-Clash.ensures.kept)
    ((clash_modules c.args.loads.now c.as_bytes.result.now c.args.a c.args.b c.is_sound.ensures c.requires.one c.requires.other c.in-Err-Clash.field-0-0 c.in-Err-Clash.one c.in-Err-Clash.other refused).1)

pub returns-in-Err-Clash-clause-imposes : goal.returns-in-Err-Clash-clause-imposes
returns-in-Err-Clash-clause-imposes c =
    let same = as_before c.args.loads.now c.impose.new.self c.in-Err-Clash.ensures.others c.in-Err-Clash.ensures.kept in
    let tells = subst (λ s. Tells c.clash.result (constraining.clash s c.args.name.now (c.in-Err-Clash.one, c.in-Err-Clash.other))) same c.clash.ensures.tells in
    let refused = rw c.in-Err-Clash.field-0-is at (rw c.as_bytes.ensures.value at c.in-Err-Clash.ensures.refused) in
    rw same (clash_leaves c.args.loads.now c.args.name.now c.args.a c.args.b c.is_sound.ensures c.requires.one c.requires.other c.in-Err-Clash.field-0-0 c.in-Err-Clash.one c.in-Err-Clash.other c.clash.result refused tells)

pub returns-in-Ok-clause-moves : goal.returns-in-Ok-clause-moves
returns-in-Ok-clause-moves c = constrained_moves c.args.loads.now c.impose.new.self c.as_bytes.result.now c.args.a c.args.b c.in-Ok.ensures.grows c.in-Ok.ensures.others c.in-Ok.ensures.adds

pub returns-in-Err-Clash-clause-moves : goal.returns-in-Err-Clash-clause-moves
returns-in-Err-Clash-clause-moves c = before_moves c.args.loads.now c.impose.new.self c.in-Err-Clash.ensures.others c.in-Err-Clash.ensures.kept

pub returns-clause-moves : goal.returns-clause-moves
returns-clause-moves c = before_moves c.args.loads.now c.impose.new.self c.in-Err-NoMemory.ensures.others c.in-Err-NoMemory.ensures.kept

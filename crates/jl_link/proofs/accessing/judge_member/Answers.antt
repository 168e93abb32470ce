use Rattle.jl_link.specs.References.{member_text}
use Rattle.jl_link.proofs.Reaching.{class_kept, asks_later}
use Rattle.jl_link.proofs.Judging.{judged_leaves, may_use}
use Rattle.jl_link.proofs.accessing.judge_member.Goals as goal

pub returns-in-Ok-clause-judges : goal.returns-in-Ok-clause-judges
returns-in-Ok-clause-judges g c = λ files from to desc told here there.
    let s = c.args.loads.now in
    let t = c.in_one_nest.new.loads in
    let d = class_kept s t c.args.d from c.in_one_nest.ensures.keeps c.requires.caller here in
    let owner = class_kept s t c.args.m.now.owner to c.in_one_nest.ensures.keeps c.requires.owner there in
    judged_leaves files c.args.at s t c.args.d from c.args.named c.args.access c.args.name.now desc c.args.m.now to c.in-Ok.same_nest c.judged.result c.judged.new.loads (c.in-Ok.ensures.nests files told) (c.judged.ensures.judges from to d owner)

pub returns-in-Ok-clause-granted : goal.returns-in-Ok-clause-granted
returns-in-Ok-clause-granted g c = λ from to here there.
    let s = c.args.loads.now in
    let t = c.in_one_nest.new.loads in
    let d = class_kept s t c.args.d from c.in_one_nest.ensures.keeps c.requires.caller here in
    let owner = class_kept s t c.args.m.now.owner to c.in_one_nest.ensures.keeps c.requires.owner there in
    may_use c.args.at t c.judged.new.loads c.args.d from c.args.named c.args.access (member_text to.declared.name c.args.name.now) c.args.m.now to c.in-Ok.same_nest c.judged.result c.judged.ensures.keeps c.in-Ok.ensures.found (c.judged.ensures.judges from to d owner)

pub returns-in-Ok-clause-asks : goal.returns-in-Ok-clause-asks
returns-in-Ok-clause-asks g c = asks_later c.read_once.ensures _ _ _ _ _ c.in_one_nest.ensures.keeps c.judged.ensures.keeps c.in_one_nest.ensures.asks

use Rattle.jl_ops.specs.Operands.{int_under}
use Rattle.jl_objops.specs.Arrays.{array_taken}
use Rattle.jl_objops.specs.Outcomes.{refer, with_target}
use Rattle.jl_objops.proofs.Ending.{finished, refused, resolved, tested_ok}
use Rattle.jl_objops.proofs.arrays.array_row.Goals as goal

pub returns-in-Err-refer-clause-row : goal.returns-in-Err-refer-clause-row
returns-in-Err-refer-clause-row g c = λ files told.
    let said = refer files c.args.at c.args.world.now c.args.caller.class c.args.index in
    tested_ok c.args.store.now c.args.store.now c.args.world.now c.refer.new.world _ (int_under c.args.store.now.frames 0) (with_target said (array_taken c.args.next c.args.store.now c.args.caller)) c.in-Err-refer.end c.int_under.ensures.value c.in_default.not-Err
    (refused (array_taken c.args.next c.args.store.now c.args.caller) c.args.store.now c.refer.new.world said c.in-Err-refer.end (c.in-Err-refer.ensures.refers files told))

pub returns-clause-row : goal.returns-clause-row
returns-clause-row g c = λ files told.
    let said = refer files c.args.at c.args.world.now c.args.caller.class c.args.index in
    tested_ok c.args.store.now c.array_done-done.new.store c.args.world.now c.refer.new.world _ (int_under c.args.store.now.frames 0) (with_target said (array_taken c.args.next c.args.store.now c.args.caller)) c.ended.result c.int_under.ensures.value c.in_default.not-Err
    (resolved (array_taken c.args.next c.args.store.now c.args.caller) c.args.store.now c.refer.new.world said c.in-Ok.target c.ended.result c.array_done-done.new.store (c.in-Ok.ensures.refers files told)
    (finished _ c.args.store.now c.array_done-done.new.store c.refer.new.world c.ended.result c.array_done-done.result c.array_done-done.ensures c.ended.ensures))

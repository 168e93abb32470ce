use Rattle.std.proofs.Common.{sym, subst}
use Rattle.jl_heap.specs.declared.value.Kind.{Kind}
use Rattle.jl_objops.specs.Fields.{field_done, operands}
use Rattle.jl_objops.specs.Outcomes.{IsRow, refer, tested, with_target}
use Rattle.jl_objops.proofs.Ending.{finished, refused, resolved, same_ok, tested_so}
use Rattle.jl_objops.proofs.fields.field_row.Goals as goal

pub returns-in-Err-refer-clause-row : goal.returns-in-Err-refer-clause-row
returns-in-Err-refer-clause-row g c = λ files told.
    let kind = same_ok _ _ c.in-Ok.ensures in
    let said = refer files c.args.at c.args.world.now c.args.caller.class c.args.index in
    subst (λ (k : Kind). IsRow (tested c.args.world.now (operands c.args.op k c.args.store.now.frames) (λ taken. with_target said (field_done c.args.op k c.args.caller c.args.next c.args.store.now taken))) c.args.store.now c.in-Err-refer.end c.refer.new.world c.args.store.now) (sym kind)
    (tested_so c.args.store.now c.args.store.now c.args.world.now c.refer.new.world (operands c.args.op c.in-Ok.kind c.args.store.now.frames) (λ taken. with_target said (field_done c.args.op c.in-Ok.kind c.args.caller c.args.next c.args.store.now taken)) c.in-Ok-operands.taken c.in-Err-refer.end (sym c.in-Ok-operands.ensures)
    (refused (field_done c.args.op c.in-Ok.kind c.args.caller c.args.next c.args.store.now c.in-Ok-operands.taken) c.args.store.now c.refer.new.world said c.in-Err-refer.end (c.in-Err-refer.ensures.refers files told)))

pub returns-clause-row : goal.returns-clause-row
returns-clause-row g c = λ files told.
    let kind = same_ok _ _ c.in-Ok.ensures in
    let said = refer files c.args.at c.args.world.now c.args.caller.class c.args.index in
    subst (λ (k : Kind). IsRow (tested c.args.world.now (operands c.args.op k c.args.store.now.frames) (λ taken. with_target said (field_done c.args.op k c.args.caller c.args.next c.args.store.now taken))) c.args.store.now c.ended.result c.refer.new.world c.field_done-done.new.store) (sym kind)
    (tested_so c.args.store.now _ c.args.world.now c.refer.new.world (operands c.args.op c.in-Ok.kind c.args.store.now.frames) (λ taken. with_target said (field_done c.args.op c.in-Ok.kind c.args.caller c.args.next c.args.store.now taken)) c.in-Ok-operands.taken c.ended.result (sym c.in-Ok-operands.ensures)
    (resolved (field_done c.args.op c.in-Ok.kind c.args.caller c.args.next c.args.store.now c.in-Ok-operands.taken) c.args.store.now c.refer.new.world said c.in-Ok-refer.target c.ended.result _ (c.in-Ok-refer.ensures.refers files told)
    (finished _ c.args.store.now _ c.refer.new.world c.ended.result c.field_done-done.result c.field_done-done.ensures c.ended.ensures)))

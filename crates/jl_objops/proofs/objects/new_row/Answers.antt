use Rattle.jl_objops.specs.Objects.{new_done}
use Rattle.jl_objops.specs.Outcomes.{refer, with_target}
use Rattle.jl_objops.proofs.Ending.{finished, refused, resolved, roomy}
use Rattle.jl_objops.proofs.objects.new_row.Goals as goal

pub returns-in-Err-refer-clause-row : goal.returns-in-Err-refer-clause-row
returns-in-Err-refer-clause-row g c = λ files told.
    let said = refer files c.args.at c.args.world.now c.args.caller.class c.args.index in
    roomy c.args.store.now c.args.store.now c.args.world.now c.refer.new.world 1 (λ _. with_target said (new_done c.args.next c.args.store.now)) c.in-Err-refer.end c.in-Ok.ensures
    (refused (new_done c.args.next c.args.store.now) c.args.store.now c.refer.new.world said c.in-Err-refer.end (c.in-Err-refer.ensures.refers files told))

pub returns-clause-row : goal.returns-clause-row
returns-clause-row g c = λ files told.
    let said = refer files c.args.at c.args.world.now c.args.caller.class c.args.index in
    roomy c.args.store.now c.new_done-done.new.store c.args.world.now c.refer.new.world 1 (λ _. with_target said (new_done c.args.next c.args.store.now)) c.ended.result c.in-Ok.ensures
    (resolved (new_done c.args.next c.args.store.now) c.args.store.now c.refer.new.world said c.in-Ok-refer.target c.ended.result c.new_done-done.new.store (c.in-Ok-refer.ensures.refers files told)
    (finished _ c.args.store.now c.new_done-done.new.store c.refer.new.world c.ended.result c.new_done-done.result c.new_done-done.ensures c.ended.ensures))

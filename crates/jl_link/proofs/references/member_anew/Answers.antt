use Rattle.std.proofs.Common.{◌≡◌, ◌∙◌, sym, subst, Ok, Err, IfOk}
use Rattle.jl_loads.specs.Ends.{Leaves}
use Rattle.jl_loads.specs.declared.slot.PoolSlot.TheVariants.{Passed}
use Rattle.jl_loads.specs.Worlds.{slot_at}
use Rattle.jl_link.specs.References as references
use Rattle.jl_link.specs.Standing.{IsMemberOf}
use Rattle.jl_link.proofs.Onwards.{class_on, moves_empty, moves_on, onward_onward}
use Rattle.jl_link.proofs.Reaching.{class_there, leaves_end, leaves_next}
use Rattle.jl_link.proofs.Resolved.{anew_member, member_refers, not_itself, some_parts}
use Rattle.jl_link.proofs.references.member_anew.Goals as goal

pub returns-in-Ok-resolve_class-clause-finds : goal.returns-in-Ok-resolve_class-clause-finds
returns-in-Ok-resolve_class-clause-finds g c = λ files told.
    let from = class_there c.args.loads.now c.args.d c.requires.class in
    let p = some_parts _ c.args.class (c.requires.parts from.0 from.1) in
    let here = class_on c.args.loads.now c.resolve_class.new.loads c.resolve_class.ensures.onward c.args.d from.0 from.1 in
    anew_member files c.args.at c.args.loads.now c.args.d c.args.index from.0 from.1 p.0 c.in_target.result c.in_target.new.loads p.1
    (leaves_next (references.resolve_class files c.args.at c.args.loads.now c.args.d from.0 p.0.1) (λ t k. references.in_target files c.args.at t c.args.d from.0 (references.entry_at from.0.declared.pool c.args.index) k (references.looked_up_in t k))
    c.in-Ok-resolve_class.target c.resolve_class.new.loads c.in_target.new.loads c.in_target.result
    (subst (λ k. references.resolve_class files c.args.at c.args.loads.now c.args.d from.0 k ≡ (c.resolve_class.new.loads, Ok c.in-Ok-resolve_class.target)) (sym p.2) (c.in-Ok-resolve_class.ensures.finds files from.0 told from.1))
    (subst (λ e. Leaves (references.in_target files c.args.at c.resolve_class.new.loads c.args.d from.0 e c.in-Ok-resolve_class.target (references.looked_up_in c.resolve_class.new.loads c.in-Ok-resolve_class.target)) c.in_target.result c.in_target.new.loads)
    (c.in-Ok.ensures from.0 from.1) (c.in_target.ensures.finds files from.0 (c.in-Ok-resolve_class.ensures.same_files ∙ told) here)))

pub returns-in-Ok-resolve_class-clause-refers : goal.returns-in-Ok-resolve_class-clause-refers
returns-in-Ok-resolve_class-clause-refers g c =
    let from = class_there c.args.loads.now c.args.d c.requires.class in
    let p = some_parts _ c.args.class (c.requires.parts from.0 from.1) in
    let here = class_on c.args.loads.now c.resolve_class.new.loads c.resolve_class.ensures.onward c.args.d from.0 from.1 in
    let there = class_on c.resolve_class.new.loads c.in_target.new.loads (moves_on c.resolve_class.new.loads c.in_target.new.loads c.in_target.ensures.moves) c.args.d from.0 here in
    member_refers c.resolve_class.new.loads c.in_target.new.loads c.args.d c.args.index from.0 p.0 c.in-Ok-resolve_class.target c.in_target.result c.in_target.ensures.moves there p.1
    (subst (λ k. slot_at c.resolve_class.new.loads c.args.d k ≡ Passed c.in-Ok-resolve_class.target) (sym p.2) c.in-Ok-resolve_class.ensures.passed)
    (subst (λ e. IfOk c.in_target.result (IsMemberOf c.in_target.new.loads c.args.d from.0 e c.in-Ok-resolve_class.target)) (c.in-Ok.ensures from.0 from.1) (c.in_target.ensures.found from.0 here))

pub returns-in-Ok-resolve_class-clause-free : goal.returns-in-Ok-resolve_class-clause-free
returns-in-Ok-resolve_class-clause-free g c = λ free.
    let from = class_there c.args.loads.now c.args.d c.requires.class in
    let p = some_parts _ c.args.class (c.requires.parts from.0 from.1) in
    moves_empty c.resolve_class.new.loads c.in_target.new.loads c.in_target.ensures.moves c.args.d c.args.index
    (c.in-Ok-resolve_class.ensures.others c.args.index (not_itself from.0 c.args.index c.args.class p.0 p.1 (c.requires.named from.0 from.1)) free)

pub returns-in-Ok-resolve_class-clause-onward : goal.returns-in-Ok-resolve_class-clause-onward
returns-in-Ok-resolve_class-clause-onward g c =
    onward_onward c.args.loads.now c.resolve_class.new.loads c.in_target.new.loads c.resolve_class.ensures.onward (moves_on c.resolve_class.new.loads c.in_target.new.loads c.in_target.ensures.moves)

pub returns-in-Ok-resolve_class-clause-stand : goal.returns-in-Ok-resolve_class-clause-stand
returns-in-Ok-resolve_class-clause-stand g c = λ all.
    c.decided_stays.ensures.stand c.resolve_class.new.loads c.in_target.new.loads c.is_sound-in-Ok-resolve_class.ensures (moves_on c.resolve_class.new.loads c.in_target.new.loads c.in_target.ensures.moves)
    (moves_empty c.resolve_class.new.loads c.in_target.new.loads c.in_target.ensures.moves) (c.in-Ok-resolve_class.ensures.stand all)

pub returns-in-Ok-clause-finds : goal.returns-in-Ok-clause-finds
returns-in-Ok-clause-finds g c = λ files told.
    let from = class_there c.args.loads.now c.args.d c.requires.class in
    let p = some_parts _ c.args.class (c.requires.parts from.0 from.1) in
    anew_member files c.args.at c.args.loads.now c.args.d c.args.index from.0 from.1 p.0 (Err c.in-Err-resolve_class.end) c.resolve_class.new.loads p.1
    (leaves_end (references.resolve_class files c.args.at c.args.loads.now c.args.d from.0 p.0.1) (λ t k. references.in_target files c.args.at t c.args.d from.0 (references.entry_at from.0.declared.pool c.args.index) k (references.looked_up_in t k))
    c.in-Err-resolve_class.end c.resolve_class.new.loads
    (subst (λ k. Leaves (references.resolve_class files c.args.at c.args.loads.now c.args.d from.0 k) (Err c.in-Err-resolve_class.end) c.resolve_class.new.loads) (sym p.2) (c.in-Err-resolve_class.ensures.finds files from.0 told from.1)))

pub returns-in-Ok-clause-free : goal.returns-in-Ok-clause-free
returns-in-Ok-clause-free g c = λ free.
    let from = class_there c.args.loads.now c.args.d c.requires.class in
    let p = some_parts _ c.args.class (c.requires.parts from.0 from.1) in
    c.in-Err-resolve_class.ensures.others c.args.index (not_itself from.0 c.args.index c.args.class p.0 p.1 (c.requires.named from.0 from.1)) free

use Rattle.std.proofs.Common.{◌≡◌, ap, subst, Ok, Err}
use Rattle.jl_link.specs.Members.{wanted}
use Rattle.jl_link.specs.References as references
use Rattle.jl_link.specs.References.{Named}
use Rattle.jl_link.specs.Standing.{AreAgreed, IsMemberOf, MayUse}
use Rattle.jl_link.proofs.Onwards.{keeps_on, moves_on}
use Rattle.jl_link.proofs.Reaching.{asks_kept, class_there, class_kept}
use Rattle.jl_link.proofs.Resolved.{member_found, through_end, through_next}
use Rattle.jl_link.proofs.Through.{by_both, judged_as, owner_there}
use Rattle.jl_link.proofs.references.let_through.Goals as goal

pub returns-in-Ok-clause-finds : goal.returns-in-Ok-clause-finds
returns-in-Ok-clause-finds g c = λ files from told here.
    let s = c.args.loads.now in
    let u = c.judge_member.new.loads in
    let e = c.args.entry.now in
    let owner = owner_there e.kind s c.args.m.now c.requires.owner in
    let to = class_there s c.args.m.now.owner owner in
    through_next files c.args.at s c.args.d from e c.args.class.now c.args.c c.args.m.now to.0 to.1 c.agreed.result u c.agreed.new.loads
    (judged_as files c.args.at s c.args.d from c.args.c _ _ _ _ c.args.m.now to.0 (Ok tt) u c.access_by-access.ensures (ap (λ (x : Named). wanted x.wanted.name e.wanted.desc) c.entry.view_is) (c.in-Ok.ensures.judges files from to.0 e.wanted.desc told here to.1))
    (c.agreed.ensures.finds from to.0 (class_kept s u c.args.d from c.judge_member.ensures.keeps c.requires.caller here) (class_kept s u c.args.m.now.owner to.0 c.judge_member.ensures.keeps owner to.1))

pub returns-in-Ok-clause-found : goal.returns-in-Ok-clause-found
returns-in-Ok-clause-found g c = λ from here.
    let s = c.args.loads.now in
    let u = c.judge_member.new.loads in
    let v = c.agreed.new.loads in
    let e = c.args.entry.now in
    let owner = owner_there e.kind s c.args.m.now c.requires.owner in
    let to = class_there s c.args.m.now.owner owner in
    let x = class_there s c.args.c c.requires.there in
    let near = class_kept s u c.args.d from c.judge_member.ensures.keeps c.requires.caller here in
    let far = class_kept s u c.args.m.now.owner to.0 c.judge_member.ensures.keeps owner to.1 in
    by_both (λ t. t ≡ references.target_of e.kind v c.args.m.now) (λ t. AreAgreed v from.loader to.0.loader e.wanted.desc) (IsMemberOf v c.args.d from e c.args.class.now) c.agreed.result
    (λ t is agree. member_found c.classes_stay.ensures c.loads_stay.ensures c.sound_stays.ensures c.grants_stay.ensures s u v c.args.d from e c.args.class.now c.args.c x.0 c.args.m.now to.0 c.is_sound.ensures c.is_sound-in-Ok.ensures
    (keeps_on s u c.judge_member.ensures.keeps) (moves_on u v c.agreed.ensures.moves) here x.1 to.1 c.requires.looked_up (c.requires.fits x.0 x.1) c.requires.member
    (subst (λ a. MayUse u c.args.d from c.args.c a c.args.m.now to.0) c.access_by-access.ensures (c.in-Ok.ensures.granted from to.0 here to.1)) agree t is)
    c.agreed.ensures.target (c.agreed.ensures.agreed from to.0 near far)

pub returns-in-Ok-clause-asks : goal.returns-in-Ok-clause-asks
returns-in-Ok-clause-asks g c = asks_kept c.read_once.ensures c.args.loads.now c.judge_member.new.loads c.agreed.new.loads _ _ c.judge_member.ensures.keeps.kept c.agreed.ensures.moves.kept c.judge_member.ensures.asks

pub returns-in-Err-clause-finds : goal.returns-in-Err-clause-finds
returns-in-Err-clause-finds g c = λ files from told here.
    let s = c.args.loads.now in
    let u = c.judge_member.new.loads in
    let e = c.args.entry.now in
    let to = class_there s c.args.m.now.owner (owner_there e.kind s c.args.m.now c.requires.owner) in
    through_end files c.args.at s c.args.d from e c.args.class.now c.args.c c.args.m.now to.0 to.1 c.in-Err.end u
    (judged_as files c.args.at s c.args.d from c.args.c _ _ _ _ c.args.m.now to.0 (Err c.in-Err.end) u c.access_by-access.ensures (ap (λ (x : Named). wanted x.wanted.name e.wanted.desc) c.entry.view_is) (c.in-Err.ensures.judges files from to.0 e.wanted.desc told here to.1))

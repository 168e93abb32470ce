use Rattle.jl_link.specs.References as references
use Rattle.jl_link.proofs.Onwards.{keeps_empty, keeps_on, onward_onward, still_class}
use Rattle.jl_link.proofs.Reaching.{class_there, class_kept}
use Rattle.jl_link.proofs.Settling.{class_refers, filled, filled_asks, filled_onward, filled_others, opens_leaves, row_stays, settles_leaves, settles_passed, settles_stand}
use Rattle.jl_link.proofs.resolving.decide_class.Goals as goal

pub returns-clause-finds : goal.returns-clause-finds
returns-clause-finds g c = λ files from told there.
    opens_leaves c.args.loads.now c.settle.new.loads c.args.d c.args.index (references.class_anew files c.args.at c.args.loads.now from c.args.index) c.settle.result c.requires.free
    (settles_leaves c.args.d c.args.index c.class_anew-found.new.loads c.settle.new.loads _ c.class_anew-found.result c.settle.result (c.class_anew-found.ensures.finds files from told there) c.settle.ensures)

pub returns-clause-passed : goal.returns-clause-passed
returns-clause-passed g c = settles_passed c.args.d c.args.index c.class_anew-found.new.loads c.settle.new.loads c.class_anew-found.result c.settle.result c.requires.class.0
    (row_stays c.args.loads.now c.class_anew-found.new.loads c.args.d c.args.index c.is_sound.ensures c.is_sound-2.ensures (keeps_on c.args.loads.now c.class_anew-found.new.loads c.class_anew-found.ensures.keeps) c.requires.class c.requires.within) c.settle.ensures

pub returns-clause-others : goal.returns-clause-others
returns-clause-others g c = λ i other free.
    filled_others c.args.d c.args.index i c.class_anew-found.new.loads c.settle.new.loads c.requires.class.0 other (filled c.args.d c.args.index c.class_anew-found.new.loads c.settle.new.loads c.class_anew-found.result c.settle.result c.settle.ensures)
    (keeps_empty c.args.loads.now c.class_anew-found.new.loads c.class_anew-found.ensures.keeps c.args.d i free)

pub returns-clause-onward : goal.returns-clause-onward
returns-clause-onward g c =
    onward_onward c.args.loads.now c.class_anew-found.new.loads c.settle.new.loads (keeps_on c.args.loads.now c.class_anew-found.new.loads c.class_anew-found.ensures.keeps)
    (filled_onward c.args.d c.args.index c.class_anew-found.new.loads c.settle.new.loads c.requires.class.0 (keeps_empty c.args.loads.now c.class_anew-found.new.loads c.class_anew-found.ensures.keeps c.args.d c.args.index c.requires.free)
    (filled c.args.d c.args.index c.class_anew-found.new.loads c.settle.new.loads c.class_anew-found.result c.settle.result c.settle.ensures))

pub returns-clause-stand : goal.returns-clause-stand
returns-clause-stand g c = λ all.
    let on = keeps_on c.args.loads.now c.class_anew-found.new.loads c.class_anew-found.ensures.keeps in
    let empty = keeps_empty c.args.loads.now c.class_anew-found.new.loads c.class_anew-found.ensures.keeps in
    let from = class_there c.args.loads.now c.args.d c.requires.class in
    settles_stand c.decided_stays.ensures c.args.d c.args.index c.class_anew-found.new.loads c.settle.new.loads c.class_anew-found.result c.settle.result c.is_sound-2.ensures
    (still_class c.args.loads.now c.class_anew-found.new.loads on c.args.d c.requires.class) (empty c.args.d c.args.index c.requires.free)
    (class_refers c.class_anew-found.new.loads c.args.d c.args.index from.0 c.class_anew-found.result (class_kept c.args.loads.now c.class_anew-found.new.loads c.args.d from.0 c.class_anew-found.ensures.keeps c.requires.class from.1) (c.requires.named from.0 from.1) (c.class_anew-found.ensures.names from.0 from.1))
    c.settle.ensures (c.decided_stays.ensures.stand c.args.loads.now c.class_anew-found.new.loads c.is_sound.ensures on empty all)

pub returns-clause-asks : goal.returns-clause-asks
returns-clause-asks g c =
    filled_asks c.read_once.ensures c.args.d c.args.index c.args.loads.now c.class_anew-found.new.loads c.settle.new.loads _ _ c.class_anew-found.ensures.keeps.kept
    (filled c.args.d c.args.index c.class_anew-found.new.loads c.settle.new.loads c.class_anew-found.result c.settle.result c.settle.ensures) c.class_anew-found.ensures.asks

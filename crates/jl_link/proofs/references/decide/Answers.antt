use Rattle.jl_link.specs.References as references
use Rattle.jl_link.proofs.Onwards.{onward_onward, still_class}
use Rattle.jl_link.proofs.Settling.{filled, filled_asks, filled_onward, opens_leaves, row_stays, settles_leaves, settles_passed, settles_stand}
use Rattle.jl_link.proofs.references.decide.Goals as goal

pub settle-requires-clause-within : goal.settle-requires-clause-within
settle-requires-clause-within g c =
    row_stays c.args.loads.now c.resolve_anew-found.new.loads c.args.d c.args.index c.is_sound.ensures c.is_sound-2.ensures c.resolve_anew-found.ensures.onward c.requires.class c.requires.within

pub returns-clause-finds : goal.returns-clause-finds
returns-clause-finds g c = λ files told.
    opens_leaves c.args.loads.now c.settle.new.loads c.args.d c.args.index (references.resolve_anew files c.args.at c.args.loads.now c.args.d c.args.index) c.settle.result c.requires.free
    (settles_leaves c.args.d c.args.index c.resolve_anew-found.new.loads c.settle.new.loads _ c.resolve_anew-found.result c.settle.result (c.resolve_anew-found.ensures.finds files told) c.settle.ensures)

pub returns-clause-passed : goal.returns-clause-passed
returns-clause-passed g c = settles_passed c.args.d c.args.index c.resolve_anew-found.new.loads c.settle.new.loads c.resolve_anew-found.result c.settle.result c.requires.class.0
    (row_stays c.args.loads.now c.resolve_anew-found.new.loads c.args.d c.args.index c.is_sound.ensures c.is_sound-2.ensures c.resolve_anew-found.ensures.onward c.requires.class c.requires.within) c.settle.ensures

pub returns-clause-onward : goal.returns-clause-onward
returns-clause-onward g c =
    onward_onward c.args.loads.now c.resolve_anew-found.new.loads c.settle.new.loads c.resolve_anew-found.ensures.onward
    (filled_onward c.args.d c.args.index c.resolve_anew-found.new.loads c.settle.new.loads c.requires.class.0 (c.resolve_anew-found.ensures.free c.requires.free)
    (filled c.args.d c.args.index c.resolve_anew-found.new.loads c.settle.new.loads c.resolve_anew-found.result c.settle.result c.settle.ensures))

pub returns-clause-stand : goal.returns-clause-stand
returns-clause-stand g c = λ all.
    settles_stand c.decided_stays.ensures c.args.d c.args.index c.resolve_anew-found.new.loads c.settle.new.loads c.resolve_anew-found.result c.settle.result c.is_sound-2.ensures
    (still_class c.args.loads.now c.resolve_anew-found.new.loads c.resolve_anew-found.ensures.onward c.args.d c.requires.class) (c.resolve_anew-found.ensures.free c.requires.free)
    c.resolve_anew-found.ensures.refers c.settle.ensures (c.resolve_anew-found.ensures.stand all)

pub returns-clause-asks : goal.returns-clause-asks
returns-clause-asks g c =
    filled_asks c.read_once.ensures c.args.d c.args.index c.args.loads.now c.resolve_anew-found.new.loads c.settle.new.loads _ _ c.resolve_anew-found.ensures.onward.kept
    (filled c.args.d c.args.index c.resolve_anew-found.new.loads c.settle.new.loads c.resolve_anew-found.result c.settle.result c.settle.ensures) c.resolve_anew-found.ensures.asks

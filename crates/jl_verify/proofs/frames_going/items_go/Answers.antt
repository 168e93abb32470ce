use Rattle.std.proofs.Common.{◌+◌, drop, arith}
use Rattle.jl_vtypes.specs.Assignability.{goes}
use Rattle.std.specs.Option.{option_copied}
use Rattle.jl_verify.specs.Moves.{or_top}
use Rattle.jl_verify.specs.Rules.{items_go}
use Rattle.jl_verify.proofs.AskedLists.{items_next, items_done}
use Rattle.jl_verify.proofs.Prefixes.{begun, further, stopped, failed, ended}
use Rattle.jl_verify.proofs.frames_going.items_go.Goals as goal

pub loop-at-init : goal.loop-at-init
loop-at-init g c = begun g.H.Hierarchy.step (items_go c.args.from.now c.args.to.now) c.args.h.now

pub loop-at-preserved : goal.loop-at-preserved
loop-at-preserved g c =
    further g.H.Hierarchy.step (items_go c.args.from.now c.args.to.now) (items_go (drop c.loop-at.at c.args.from.now) (drop c.loop-at.at c.args.to.now)) (goes (or_top (option_copied c.item_at.result)) c.index-to-at.result)
    (items_go (drop (c.loop-at.at + 1) c.args.from.now) (drop (c.loop-at.at + 1) c.args.to.now)) c.args.h.now c.loop-at.h c.goes_from.new.h c.in-Ok-true.field-0
    (items_next c.args.from.now c.args.to.now c.loop-at.at (option_copied c.item_at.result) c.index-to-at.result c.item_at.ensures c.index-to-at.is (omega arith)) c.in-Ok-true.field-0-test c.loop-at.invariant c.in-Ok-true.ensures

pub returns-in-Ok-false : goal.returns-in-Ok-false
returns-in-Ok-false g c =
    stopped g.H.Hierarchy.step (items_go c.args.from.now c.args.to.now) (items_go (drop c.loop-at.at c.args.from.now) (drop c.loop-at.at c.args.to.now)) (goes (or_top (option_copied c.item_at.result)) c.index-to-at.result)
    (items_go (drop (c.loop-at.at + 1) c.args.from.now) (drop (c.loop-at.at + 1) c.args.to.now)) c.args.h.now c.loop-at.h c.goes_from.new.h c.in-Ok-false.field-0
    (items_next c.args.from.now c.args.to.now c.loop-at.at (option_copied c.item_at.result) c.index-to-at.result c.item_at.ensures c.index-to-at.is (omega arith)) c.in-Ok-false.field-0-test c.loop-at.invariant c.in-Ok-false.ensures

pub returns-in-Err : goal.returns-in-Err
returns-in-Err g c =
    failed g.H.Hierarchy.step (items_go c.args.from.now c.args.to.now) (items_go (drop c.loop-at.at c.args.from.now) (drop c.loop-at.at c.args.to.now)) (goes (or_top (option_copied c.item_at.result)) c.index-to-at.result)
    (items_go (drop (c.loop-at.at + 1) c.args.from.now) (drop (c.loop-at.at + 1) c.args.to.now)) c.args.h.now c.loop-at.h c.goes_from.new.h c.in-Err.fault
    (items_next c.args.from.now c.args.to.now c.loop-at.at (option_copied c.item_at.result) c.index-to-at.result c.item_at.ensures c.index-to-at.is (omega arith)) c.loop-at.invariant c.in-Err.ensures

pub returns : goal.returns
returns g c =
    ended g.H.Hierarchy.step (items_go c.args.from.now c.args.to.now) (items_go (drop c.loop-at.at c.args.from.now) (drop c.loop-at.at c.args.to.now)) c.args.h.now c.loop-at.h
    (items_done c.args.from.now c.args.to.now c.loop-at.at (omega arith)) c.loop-at.invariant

use Rattle.std.proofs.Common.{◌-◌, ◌<◌, map, sum, ap, arith}
use Rattle.jl_loads.specs.Worlds.{line_by}
use Rattle.jl_objops.specs.Fields.{own_count}
use Rattle.jl_objops.proofs.Lines.{none_of, sum_ended, sum_none, sum_next}
use Rattle.jl_objops.proofs.slots.count_up.Goals as goal

pub returns-then-left-eq0 : goal.returns-then-left-eq0
returns-then-left-eq0 c =
    let none = sum_ended (own_count c.args.world.now) c.args.world.now c.loop-next.left c.loop-next.next c.if-left-eq0.true in
    omega (arith, c.loop-next.invariant.0, none)

pub loop-next-preserved : goal.loop-next-preserved
loop-next-preserved c =
    let more : 0 < c.loop-next.left = omega (arith, c.if-left-eq0.false) in
    let next = sum_next (own_count c.args.world.now) c.args.world.now c.loop-next.left c.loop-next.next c.in-Some.here c.in-Some.is more in
    let up = ap (λ o. sum (map (own_count c.args.world.now) (line_by (c.loop-next.left - 1) c.args.world.now o))) c.super_of-next.ensures in
    (omega (arith, c.loop-next.invariant.0, next, up, c.own_count-count.ensures.count), omega (arith, c.loop-next.invariant.1, more, c.own_count-count.ensures.few))

pub returns : goal.returns
returns c =
    let none = sum_none (own_count c.args.world.now) c.args.world.now c.loop-next.left c.loop-next.next (none_of c.loop-next.next c.in_default.not-Some) in
    omega (arith, c.loop-next.invariant.0, none)

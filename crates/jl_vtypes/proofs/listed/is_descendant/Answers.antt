use Rattle.std.proofs.Common.{◌∙◌, ◌+◌, ◌-◌, length, sym, arith}
use Rattle.jl_vtypes.proofs.Lineage.{met, at_top, one_up, no_more}
use Rattle.jl_vtypes.proofs.listed.is_descendant.Goals as goal

pub returns-then-eq : goal.returns-then-eq
returns-then-eq c =
    sym (met (length c.args.classes.now - c.loop.counter) c.args.classes.now c.args.to.now c.loop.from.now (omega arith) (sym c.eq.ensures ∙ c.if-eq.true)) ∙ c.loop.invariant

pub returns-in-None : goal.returns-in-None
returns-in-None c =
    sym (at_top (length c.args.classes.now - c.loop.counter) c.args.classes.now c.args.to.now c.loop.from.now (omega arith) (sym c.eq.ensures ∙ c.if-eq.false) (sym c.in-None.ensures)) ∙ c.loop.invariant

pub loop-preserved : goal.loop-preserved
loop-preserved c =
    one_up (length c.args.classes.now - c.loop.counter) (length c.args.classes.now - (c.loop.counter + 1)) c.args.classes.now c.args.to.now c.loop.from.now c.in-Some.above.now
    (omega arith) (sym c.eq.ensures ∙ c.if-eq.false) (sym c.in-Some.ensures) ∙ c.loop.invariant

pub returns : goal.returns
returns c = sym (no_more (length c.args.classes.now - c.loop.counter) c.args.classes.now c.args.to.now c.loop.from.now (omega arith)) ∙ c.loop.invariant

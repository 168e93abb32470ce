use Rattle.std.proofs.Common.{◌∙◌, length, sym, ap, arith}
use Rattle.jl_verify.specs.Checked.{Checked}
use Rattle.jl_verify.proofs.Tables.{table, is_table, then_passed, then_failed, then_ended, next_none, next_some, at_end}
use Rattle.jl_verify.proofs.walking.walk.Goals as goal
use Rattle.jl_verify.proofs.walking.walk.Goals.{then-leaves, else-leaves}

pub returns-in-Ok-Failed : goal.returns-in-Ok-Failed
returns-in-Ok-Failed g c = (
  table c.args.c.now,
  is_table c.args.c.now,
  then_failed g.H.Hierarchy.step c.args.c.now c.c.inside.instrs.now (ap (λ (x : Checked). x.instrs) c.c.view_is) c.loop-index.index (omega arith) c.index-instrs-index.result c.index-instrs-index.is
      c.loop-index.falling c.loop-index.invariant.0 c.args.h.now c.loop-index.h c.try_all.new.h c.loop-index.invariant.1 c.in-Ok-Failed.rule (rw c.in-Ok-Failed.field-0-is at c.in-Ok-Failed.ensures.tried),
)

pub returns-in-Err : goal.returns-in-Err
returns-in-Err g c = (
  table c.args.c.now,
  is_table c.args.c.now,
  then_ended g.H.Hierarchy.step c.args.c.now c.c.inside.instrs.now (ap (λ (x : Checked). x.instrs) c.c.view_is) c.loop-index.index (omega arith) c.index-instrs-index.result c.index-instrs-index.is
      c.loop-index.falling c.loop-index.invariant.0 c.args.h.now c.loop-index.h c.try_all.new.h c.loop-index.invariant.1 c.in-Err.fault c.in-Err.ensures.tried,
)

pub loop-index-preserved : goal.loop-index-preserved
loop-index-preserved g c = (
  elim c.if-leaves.branch [
    | then-leaves w ↦ w.falling-is ∙ next_none g.H.Hierarchy.step c.args.c.now c.c.inside.instrs.now (ap (λ (x : Checked). x.instrs) c.c.view_is) c.loop-index.index (omega arith) c.index-instrs-index.result c.index-instrs-index.is
        c.loop-index.falling c.loop-index.invariant.0 c.args.h.now c.loop-index.h c.try_all.new.h c.loop-index.invariant.1 (sym c.leaves.ensures ∙ w.if-leaves.true)
    | else-leaves w ↦ w.falling-is ∙ next_some g.H.Hierarchy.step c.args.c.now c.c.inside.instrs.now (ap (λ (x : Checked). x.instrs) c.c.view_is) c.loop-index.index (omega arith) c.index-instrs-index.result c.index-instrs-index.is
        c.loop-index.falling c.loop-index.invariant.0 c.args.h.now c.loop-index.h c.try_all.new.h c.loop-index.invariant.1 c.in-Ok-Passed.next (sym c.leaves.ensures ∙ w.if-leaves.false) (rw c.in-Ok-Passed.field-0-is at c.in-Ok-Passed.ensures.frame)
  ],
  then_passed g.H.Hierarchy.step c.args.c.now c.c.inside.instrs.now (ap (λ (x : Checked). x.instrs) c.c.view_is) c.loop-index.index (omega arith) c.index-instrs-index.result c.index-instrs-index.is
      c.loop-index.falling c.loop-index.invariant.0 c.args.h.now c.loop-index.h c.try_all.new.h c.loop-index.invariant.1 (rw c.in-Ok-Passed.field-0-is at c.in-Ok-Passed.ensures.tried),
)

pub returns : goal.returns
returns g c = (
  table c.args.c.now,
  is_table c.args.c.now,
  at_end g.H.Hierarchy.step c.args.c.now c.loop-index.index (omega (arith, ap (λ (x : Checked). length x.instrs) c.c.view_is)) c.args.h.now c.loop-index.h c.loop-index.invariant.1,
)

use Rattle.std.proofs.Common.{◌∙◌, ap, sym, arith}
use Rattle.jl_verify.specs.Frames.{is_wide}
use Rattle.jl_verify.proofs.StoredLists.{uncut_wide, uncut_narrow, uncut_past, uncut_first}
use Rattle.jl_verify.proofs.moving.uncut.Goals as goal
use Rattle.jl_verify.proofs.moving.uncut.Goals.{else-at-gt0-via-then-at-gt0+then-at-len+else-is_wide, else-at-gt0-via-then-at-gt0+else-at-len, else-at-gt0-via-else-at-gt0}

pub returns-then-is_wide : goal.returns-then-is_wide
returns-then-is_wide c =
    uncut_wide c.args.locals.now.items c.args.at c.index.result.now c.if-at-gt0.true (omega (arith, c.if-at-len.true, c.len.ensures, c.args.locals.now.ok.0))
    (ap is_wide (sym c.index.ensures) ∙ sym c.is_wide.ensures ∙ c.if-is_wide.true)

pub returns-else-at-gt0 : goal.returns-else-at-gt0
returns-else-at-gt0 c = elim c.else-at-gt0.branch [
  | else-at-gt0-via-then-at-gt0+then-at-len+else-is_wide w ↦
      uncut_narrow c.args.locals.now.items c.args.at w.index.result.now w.if-at-gt0.true (omega (arith, w.if-at-len.true, w.len.ensures, c.args.locals.now.ok.0))
      (ap is_wide (sym w.index.ensures) ∙ sym w.is_wide.ensures ∙ w.if-is_wide.false)
  | else-at-gt0-via-then-at-gt0+else-at-len w ↦ uncut_past c.args.locals.now.items c.args.at (omega (arith, w.if-at-len.false, w.len.ensures, c.args.locals.now.ok.0))
  | else-at-gt0-via-else-at-gt0 w ↦ uncut_first c.args.locals.now.items c.args.at (omega (arith, w.if-at-gt0.false))
]

use Rattle.std.proofs.Common.{List, ℕ, ap, ◌∙◌, subst}
use Rattle.jl_closure.specs.Work.{with_places}
use Rattle.jl_closure.proofs.Closing.{closing_begins, closing_goes_on, taken_within, row_marks, work_falls, closed_only, closed_all, IsClosing}
use Rattle.jl_closure.proofs.reach.closure.Goals as goal

pub loop-place-init : goal.loop-place-init
loop-place-init c = closing_begins _ _ _ _ _ _ c.requires.within c.in_ok-marks.ensures c.new-work.ensures.items c.in_ok-mark_all.ensures

pub followers-row-requires : goal.followers-row-requires
followers-row-requires c = taken_within _ _ _ _ _ _ c.loop-place.invariant c.in-Some.ensures

pub mark_all-requires-in-Some : goal.mark_all-requires-in-Some
mark_all-requires-in-Some c = rw c.followers-row.ensures (row_marks _ _ _ _ _ _ c.requires.graph c.loop-place.invariant c.in-Some.ensures)

pub loop-place-smaller : goal.loop-place-smaller
loop-place-smaller c = rw c.in-Some.ensures (work_falls _ _ _ _ _ (row_marks _ _ _ _ _ _ c.requires.graph c.loop-place.invariant c.in-Some.ensures) (c.in_ok-mark_all-2.ensures ∙ ap (with_places _) c.followers-row.ensures))

pub loop-place-preserved : goal.loop-place-preserved
loop-place-preserved c = closing_goes_on _ _ _ _ _ _ _ c.requires.graph c.loop-place.invariant c.in-Some.ensures (c.in_ok-mark_all-2.ensures ∙ ap (with_places _) c.followers-row.ensures)

pub returns-clause-only : goal.returns-clause-only
returns-clause-only c = closed_only _ _ _ (subst (λ (w : List ℕ). IsClosing c.args.next.now c.args.starts.now c.loop-place.marks.items w) c.in_default.ensures c.loop-place.invariant)

pub returns-clause-all : goal.returns-clause-all
returns-clause-all c = closed_all _ _ _ (subst (λ (w : List ℕ). IsClosing c.args.next.now c.args.starts.now c.loop-place.marks.items w) c.in_default.ensures c.loop-place.invariant)

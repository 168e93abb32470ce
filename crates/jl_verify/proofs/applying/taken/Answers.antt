use Rattle.std.proofs.Common.{◌≡◌, ◌∙◌, ◌<◌, ℕ, List, length, Bool, true, false, Some, Result, Ok, Err, get_or, slice_get, ap, sym, subst}
use Rattle.std.specs.Option.{option_copied}
use Rattle.std.proofs.lemmas.Option.{slice_get-get_or}
use Rattle.jl_verify.specs.declared.fault.VerifyFault.{VerifyFault}
use Rattle.jl_verify.specs.declared.want.Wanted.{Wanted}
use Rattle.jl_verify.specs.Comes.{Comes}
use Rattle.jl_verify.specs.Rows.{fits, taken}
use Rattle.jl_verify.proofs.Takings.{taken_next, taken_other, taken_short}
use Rattle.jl_verify.proofs.applying.taken.Goals as goal

-- what is wanted of the slot at hand
wanted_at : (ws : List Wanted) (d : ℕ) (w : Wanted) → d < length ws → w ≡ get_or ws d w → slice_get ws d ≡ Some w
wanted_at ws d w lt e = slice_get-get_or ws d w lt ∙ ap Some (sym e)

not_no : (r : Result Bool VerifyFault) → r ≡ Ok false → r ≡ Ok true → ⊥
not_no r e f = let g : Ok false ≡ Ok true = sym e ∙ f in absurd cc

not_fault : (r : Result Bool VerifyFault) (e : VerifyFault) → r ≡ Err e → r ≡ Ok true → ⊥
not_fault r e i f = let g : Err e ≡ Ok true = sym i ∙ f in absurd cc

pub returns-in_default : goal.returns-in_default
returns-in_default g c =
    c.loop-depth.invariant (Ok false) c.loop-depth.h
    (taken_short g.H.Hierarchy.step c.args.c.now c.args.wanted.now c.args.f.now.stack c.loop-depth.depth c.index-wanted-depth.result c.loop-depth.h
    (wanted_at c.args.wanted.now c.loop-depth.depth c.index-wanted-depth.result c.loop-depth-test.true c.index-wanted-depth.is) (sym c.slot.ensures ∙ ap option_copied c.in_default.is))

pub returns-in-Ok-false : goal.returns-in-Ok-false
returns-in-Ok-false g c =
    let is : c.fits.result ≡ Ok false = c.in-Ok-false.is ∙ ap Ok c.in-Ok-false.field-0-test in
    subst (λ (r : Result Bool VerifyFault). Comes g.H.Hierarchy.step (taken c.args.c.now c.args.wanted.now c.args.f.now.stack) c.args.h.now r c.fits.new.h) is
    (c.loop-depth.invariant c.fits.result c.fits.new.h
    (taken_other g.H.Hierarchy.step c.args.c.now c.args.wanted.now c.args.f.now.stack c.loop-depth.depth c.index-wanted-depth.result c.in-Some.item.now c.loop-depth.h c.fits.new.h c.fits.result
    (wanted_at c.args.wanted.now c.loop-depth.depth c.index-wanted-depth.result c.loop-depth-test.true c.index-wanted-depth.is) (sym c.slot.ensures ∙ ap option_copied c.in-Some.is) (not_no c.fits.result is) c.fits.ensures))

pub returns-in-Err : goal.returns-in-Err
returns-in-Err g c =
    subst (λ (r : Result Bool VerifyFault). Comes g.H.Hierarchy.step (taken c.args.c.now c.args.wanted.now c.args.f.now.stack) c.args.h.now r c.fits.new.h) c.in-Err.is
    (c.loop-depth.invariant c.fits.result c.fits.new.h
    (taken_other g.H.Hierarchy.step c.args.c.now c.args.wanted.now c.args.f.now.stack c.loop-depth.depth c.index-wanted-depth.result c.in-Some.item.now c.loop-depth.h c.fits.new.h c.fits.result
    (wanted_at c.args.wanted.now c.loop-depth.depth c.index-wanted-depth.result c.loop-depth-test.true c.index-wanted-depth.is) (sym c.slot.ensures ∙ ap option_copied c.in-Some.is) (not_fault c.fits.result c.in-Err.fault c.in-Err.is) c.fits.ensures))

pub loop-depth-preserved : goal.loop-depth-preserved
loop-depth-preserved g c = λ result new later.
    c.loop-depth.invariant result new
    (taken_next g.H.Hierarchy.step c.args.c.now c.args.wanted.now c.args.f.now.stack c.loop-depth.depth c.index-wanted-depth.result c.in-Some.item.now c.loop-depth.h c.fits.new.h new result
    (wanted_at c.args.wanted.now c.loop-depth.depth c.index-wanted-depth.result c.loop-depth-test.true c.index-wanted-depth.is) (sym c.slot.ensures ∙ ap option_copied c.in-Some.is)
    (subst (λ (r : Result Bool VerifyFault). Comes g.H.Hierarchy.step (fits c.args.c.now c.index-wanted-depth.result c.in-Some.item.now) c.loop-depth.h r c.fits.new.h) (c.in-Ok-true.is ∙ ap Ok c.in-Ok-true.field-0-test) c.fits.ensures) later)

use Rattle.std.proofs.Common.{◌≡◌, ◌∙◌, List, Bool, true, false, Result, Ok, Err, ap, sym, subst}
use Rattle.jl_vtypes.specs.Asking.{Asks}
use Rattle.jl_verify.specs.declared.fault.VerifyFault.{VerifyFault}
use Rattle.jl_verify.specs.declared.want.Wanted.{Wanted}
use Rattle.jl_verify.specs.Comes.{Comes}
use Rattle.jl_verify.specs.Moves.{both, takes}
use Rattle.jl_verify.specs.Rows.{besides, stands, taken}
use Rattle.jl_verify.proofs.Comings.{both_true, both_false, both_err}
use Rattle.jl_verify.proofs.Takings.{if_stands}
use Rattle.jl_verify.proofs.applying.family_applies.Goals as goal

pub returns-in-Ok-true : goal.returns-in-Ok-true
returns-in-Ok-true g c =
    let A : Asks Bool = taken c.args.c.now (takes c.args.c.now c.args.family c.args.i.now.arg) c.args.f.now.stack in
    let B : Asks Bool = besides c.args.c.now c.args.family c.args.i.now.arg in
    let wants : taken c.args.c.now c.deref.result.now c.args.f.now.stack ≡ A = ap (λ (ws : List Wanted). taken c.args.c.now ws c.args.f.now.stack) (c.deref.ensures.value ∙ c.in_ok-wanted.ensures) in
    let here : Comes g.H.Hierarchy.step A c.args.h.now (Ok true) c.taken.new.h =
    subst (λ (a : Asks Bool). Comes g.H.Hierarchy.step a c.args.h.now (Ok true) c.taken.new.h) wants
    (subst (λ (r : Result Bool VerifyFault). Comes g.H.Hierarchy.step (taken c.args.c.now c.deref.result.now c.args.f.now.stack) c.args.h.now r c.taken.new.h) (c.in-Ok-true.is ∙ ap Ok c.in-Ok-true.field-0-test) c.taken.ensures) in
    if_stands g.H.Hierarchy.step (stands c.args.c.now c.args.f.now c.args.family c.args.i.now) (both A B) c.args.h.now c.besides.new.h c.besides.result (sym c.in_ok-stands.ensures ∙ c.if-not-branch.false) (both_true g.H.Hierarchy.step A B c.args.h.now c.taken.new.h c.besides.result c.besides.new.h here c.besides.ensures)

pub returns-in-Ok-false : goal.returns-in-Ok-false
returns-in-Ok-false g c =
    let A : Asks Bool = taken c.args.c.now (takes c.args.c.now c.args.family c.args.i.now.arg) c.args.f.now.stack in
    let B : Asks Bool = besides c.args.c.now c.args.family c.args.i.now.arg in
    let wants : taken c.args.c.now c.deref.result.now c.args.f.now.stack ≡ A = ap (λ (ws : List Wanted). taken c.args.c.now ws c.args.f.now.stack) (c.deref.ensures.value ∙ c.in_ok-wanted.ensures) in
    let here : Comes g.H.Hierarchy.step A c.args.h.now (Ok false) c.taken.new.h =
    subst (λ (a : Asks Bool). Comes g.H.Hierarchy.step a c.args.h.now (Ok false) c.taken.new.h) wants
    (subst (λ (r : Result Bool VerifyFault). Comes g.H.Hierarchy.step (taken c.args.c.now c.deref.result.now c.args.f.now.stack) c.args.h.now r c.taken.new.h) (c.in-Ok-false.is ∙ ap Ok c.in-Ok-false.field-0-test) c.taken.ensures) in
    if_stands g.H.Hierarchy.step (stands c.args.c.now c.args.f.now c.args.family c.args.i.now) (both A B) c.args.h.now c.taken.new.h (Ok false) (sym c.in_ok-stands.ensures ∙ c.if-not-branch.false) (both_false g.H.Hierarchy.step A B c.args.h.now c.taken.new.h here)

pub returns : goal.returns
returns g c =
    let A : Asks Bool = taken c.args.c.now (takes c.args.c.now c.args.family c.args.i.now.arg) c.args.f.now.stack in
    let B : Asks Bool = besides c.args.c.now c.args.family c.args.i.now.arg in
    let wants : taken c.args.c.now c.deref.result.now c.args.f.now.stack ≡ A = ap (λ (ws : List Wanted). taken c.args.c.now ws c.args.f.now.stack) (c.deref.ensures.value ∙ c.in_ok-wanted.ensures) in
    let here : Comes g.H.Hierarchy.step A c.args.h.now (Err c.in-Err.fault) c.taken.new.h =
    subst (λ (a : Asks Bool). Comes g.H.Hierarchy.step a c.args.h.now (Err c.in-Err.fault) c.taken.new.h) wants
    (subst (λ (r : Result Bool VerifyFault). Comes g.H.Hierarchy.step (taken c.args.c.now c.deref.result.now c.args.f.now.stack) c.args.h.now r c.taken.new.h) (c.in-Err.is) c.taken.ensures) in
    if_stands g.H.Hierarchy.step (stands c.args.c.now c.args.f.now c.args.family c.args.i.now) (both A B) c.args.h.now c.taken.new.h (Err c.in-Err.fault) (sym c.in_ok-stands.ensures ∙ c.if-not-branch.false) (both_err g.H.Hierarchy.step A B c.in-Err.fault c.args.h.now c.taken.new.h here)

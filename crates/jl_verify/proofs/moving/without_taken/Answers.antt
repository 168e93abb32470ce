use Rattle.std.proofs.Common.{◌≡◌, ◌∙◌, ℕ, length, IfOk, Bool, if◌then◌else◌, ap, sym, subst}
use Rattle.jl_verify.specs.declared.family.Family.{Family}
use Rattle.jl_verify.specs.declared.family.Family.TheVariants as families
use Rattle.jl_verify.specs.Frames.{Frame}
use Rattle.jl_verify.specs.Moves.{names_init, takes, index_of}
use Rattle.jl_verify.specs.Rows.{after_init, without, without_taken}
use Rattle.jl_verify.proofs.moving.without_taken.Goals as goal

pub returns-in-InvokeSpecial : goal.returns-in-InvokeSpecial
returns-in-InvokeSpecial c =
    let is : after_init c.args.c.now c.args.f c.index_of-in-InvokeSpecial.result ≡ without_taken c.args.c.now c.args.f c.args.family c.args.i.now =
    ap (λ (i : ℕ). after_init c.args.c.now c.args.f i) c.index_of-in-InvokeSpecial.ensures
    ∙ sym (ap (λ (b : Bool). if b then after_init c.args.c.now c.args.f (index_of c.args.i.now.arg) else without (length (takes c.args.c.now families.InvokeSpecial c.args.i.now.arg)) c.args.f) (sym (c.names_init.ensures ∙ ap (λ (i : ℕ). names_init c.args.c.now i) c.index_of.ensures) ∙ c.if-names_init.true))
    ∙ sym (ap (λ (k : Family). without_taken c.args.c.now c.args.f k c.args.i.now) c.in-InvokeSpecial.is) in
    subst (λ (g : Frame). IfOk c.after_init.result (λ h. h ≡ g)) is c.after_init.ensures

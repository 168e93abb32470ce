use Rattle.std.proofs.Common.{◌≡◌, ◌∙◌, ℕ, Bool, ap, sym, subst}
use Rattle.jl_vtypes.specs.Asking.{Asks}
use Rattle.jl_verify.specs.declared.family.Family.{Family}
use Rattle.jl_verify.specs.Comes.{Comes}
use Rattle.jl_verify.specs.Rows.{besides, special_goes}
use Rattle.jl_verify.proofs.applying.besides.Goals as goal

pub returns-in-InvokeSpecial : goal.returns-in-InvokeSpecial
returns-in-InvokeSpecial g c =
    let is : special_goes c.args.c.now c.index_of.result ≡ besides c.args.c.now c.args.family c.args.arg.now =
    ap (λ (i : ℕ). special_goes c.args.c.now i) c.index_of.ensures ∙ sym (ap (λ (k : Family). besides c.args.c.now k c.args.arg.now) c.in-InvokeSpecial.is) in
    subst (λ (a : Asks Bool). Comes g.H.Hierarchy.step a c.args.h.now c.special_goes.result c.special_goes.new.h) is c.special_goes.ensures

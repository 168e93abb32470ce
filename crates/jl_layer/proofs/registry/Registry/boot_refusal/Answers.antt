use Rattle.std.proofs.Common.{sym, subst, List}
use Rattle.std.proofs.lemmas.Result.{IfOk-weaker}
use Rattle.jl_layer.specs.declared.claims.Claim.{Claim}
use Rattle.jl_layer.specs.Defining.{boot}
use Rattle.jl_layer.specs.Deciding.{AreOrdered, IsByClash, Settles, overlap_fault}
use Rattle.jl_layer.specs.Refusals.{AppliesToBoot}
use Rattle.jl_layer.proofs.Refusing.{boot_decided}
use Rattle.jl_layer.proofs.registry.Registry.boot_refusal.Goals as goal

pub returns : goal.returns
returns c =
    let s = c.args.self.now in
    let own : List Claim = c.in_ok-own_claims.field-0.items in
    let seen : List Claim = c.as_slice.result.now in
    let order : AreOrdered own seen = subst (AreOrdered own) (sym c.as_slice.ensures.value) c.in_ok-own.ensures in
    IfOk-weaker c.overlap_in.result (IsByClash overlap_fault seen) (Settles (AppliesToBoot s (boot c.args.cf)) 4)
    (λ found h. boot_decided s c.args.cf own seen found c.requires.rise c.in_ok-own_claims.ensures order h)
    c.overlap_in.ensures

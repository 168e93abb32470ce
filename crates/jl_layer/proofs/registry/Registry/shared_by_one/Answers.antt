use Rattle.std.proofs.Common.{◌≡◌, ◌∙◌, ap, sym, subst, refl, List, Some, None}
use Rattle.std.proofs.lemmas.Result.{IfOk-weaker}
use Rattle.jl_layer.specs.declared.claims.Claim.{Claim}
use Rattle.jl_layer.specs.declared.layer.Mode.TheVariants.{One}
use Rattle.jl_layer.specs.Defining.{Asked}
use Rattle.jl_layer.specs.ClaimSteps.{without}
use Rattle.jl_layer.specs.Deciding.{AreOrdered, IsByClash, Settles, StartsAt, overlap_fault, split_fault}
use Rattle.jl_layer.specs.Refusals.{Applies}
use Rattle.jl_layer.proofs.Refusing.{overlap_decided, split_decided}
use Rattle.jl_layer.proofs.Splits.{have_readers}
use Rattle.jl_layer.proofs.registry.Registry.shared_by_one.Goals as goal

pub returns-in-Some : goal.returns-in-Some
returns-in-Some c = λ parent start.
    let s = c.args.self.now in
    let q : Asked = record { config = c.args.cf; parents = c.args.parents.now; mode = One; parent_loader = parent } in
    let own : List Claim = c.in_ok-own_claims.field-0.items in
    let seen : List Claim = c.as_slice.result.now in
    let order : AreOrdered own seen = subst (AreOrdered own) (sym c.as_slice.ensures.value) c.in_ok-own.ensures in
    overlap_decided s q refl own seen c.in_ok-own_claims.ensures order (Some c.in-Some.fault) c.requires.rise start (subst (IsByClash overlap_fault seen) c.in-Some.is c.in_ok-fault.ensures)

pub returns : goal.returns
returns c = λ parent start.
    let s = c.args.self.now in
    let q : Asked = record { config = c.args.cf; parents = c.args.parents.now; mode = One; parent_loader = parent } in
    let own : List Claim = c.in_ok-own_claims.field-0.items in
    let seen : List Claim = c.as_slice.result.now in
    let order : AreOrdered own seen = subst (AreOrdered own) (sym c.as_slice.ensures.value) c.in_ok-own.ensures in
    let none : c.in_ok-fault.field-0 ≡ None = c.in_default.is in
    let before : StartsAt (Applies s q) 4 =
    overlap_decided s q refl own seen c.in_ok-own_claims.ensures order None c.requires.rise start (subst (IsByClash overlap_fault seen) none c.in_ok-fault.ensures) in
    let taken : List Claim = c.in_ok-taken_claims.field-0.items in
    let free : List Claim = c.free_of.result.items in
    let seen_free : List Claim = c.as_slice-3.result.now in
    let order_free : AreOrdered free seen_free = subst (AreOrdered free) (sym c.as_slice-3.ensures.value) c.in_ok-free.ensures in
    let same_own : c.as_slice-2.result.now ≡ seen = c.as_slice-2.ensures.value ∙ sym c.as_slice.ensures.value in
    IfOk-weaker c.split_in.result (IsByClash split_fault seen_free) (Settles (Applies s q) 5)
    (λ found h.
    split_decided s q refl own seen c.in_ok-own_claims.ensures order taken free seen_free found (have_readers s q c.requires.kept c.requires.known) before (c.in_ok-taken_claims.ensures One parent)
    (c.free_of.ensures ∙ ap (λ (l : List Claim). without l taken) same_own) order_free h)
    c.split_in.ensures

use Rattle.std.proofs.Common.{◌≡◌, ◌<◌, ◌⊎◌, ◌≤◌, subst, length, List, ℕ}
use Rattle.std.proofs.lemmas.Result.{IfOk-weaker}
use Rattle.jl_prim.specs.Limits.{most_modules}
use Rattle.jl_config.specs.Located.{Asked, scene_of}
use Rattle.jl_config.specs.Places.{MissingFault, CycleFault, IsLeastSome}
use Rattle.jl_config.specs.Refusals.{fault_cmp}
use Rattle.jl_config.specs.Settled.{StartsAt, Settles}
use Rattle.jl_config.proofs.Assembled.{missing_kind, cycle_kind}
use Rattle.jl_config.proofs.Decided.{settled, goes_on, settles, too_many_settled, few_go_on}
use Rattle.jl_config.proofs.resolution.least_early.Goals as goal

pub returns-in-Some : goal.returns-in-Some
returns-in-Some c = λ q same long before. settled MissingFault 1 missing_kind c.args.scene.now _ c.in_ok-fault.ensures c.in-Some.fault c.in-Some.is q same before

pub returns-then-are_too_many : goal.returns-then-are_too_many
returns-then-are_too_many c = λ q same long before.
    let seen = c.as_slice.ensures.value in
    too_many_settled c.args.scene.now c.args.members.now.places.items c.args.known c.requires.places
    (subst (λ (l : List ℕ). (most_modules < length l) ⊎ (most_modules ≤ c.args.known)) seen (c.are_too_many.ensures.yes c.if-are_too_many.true)) q same long
    (goes_on MissingFault 1 missing_kind c.args.scene.now _ c.in_ok-fault.ensures c.in_default.is q same before)

pub returns : goal.returns
returns c =
    let w = c.args.scene.now in
    let ps = c.args.members.now.places.items in
    let seen = c.as_slice.ensures.value in
    IfOk-weaker c.least_cycle.result (λ found. IsLeastSome fault_cmp (CycleFault w) found) (λ found. (q : Asked) → w ≡ scene_of q → length q.known ≡ c.args.known → StartsAt q 1 → Settles q 4 found)
    (λ found sought q same long before.
    settles CycleFault 3 cycle_kind w found sought q same
    (few_go_on w ps c.args.known c.requires.places (subst (λ (l : List ℕ). length l ≤ most_modules) seen (c.are_too_many.ensures.few_places c.if-are_too_many.false)) (c.are_too_many.ensures.few_known c.if-are_too_many.false) q same long
    (goes_on MissingFault 1 missing_kind w _ c.in_ok-fault.ensures c.in_default.is q same before)))
    c.least_cycle.ensures

use Rattle.std.proofs.Common.{◌≡◌, None}
use Rattle.std.proofs.lemmas.Result.{IfOk-weaker}
use Rattle.jl_config.specs.declared.fault.ResolveFault.{ResolveFault}
use Rattle.jl_config.specs.Located.{Asked, scene_of}
use Rattle.jl_config.specs.Places.{SameNameFault}
use Rattle.jl_config.specs.Settled.{StartsAt, Settles}
use Rattle.jl_config.proofs.Assembled.{same_name_kind}
use Rattle.jl_config.proofs.Decided.{settled, goes_on, none_of}
use Rattle.jl_config.proofs.resolution.least_later.Goals as goal

pub returns-in-Some-clause-settles : goal.returns-in-Some-clause-settles
returns-in-Some-clause-settles c = λ q same before. settled SameNameFault 4 same_name_kind c.args.scene.now _ c.in_ok-fault.ensures c.in-Some.fault c.in-Some.is q same before

pub least_by_imports-requires-clause-apart : goal.least_by_imports-requires-clause-apart
least_by_imports-requires-clause-apart c = none_of SameNameFault c.args.scene.now _ c.in_ok-fault.ensures c.in_default.is

pub returns-clause-settles : goal.returns-clause-settles
returns-clause-settles c =
    let w = c.args.scene.now in
    IfOk-weaker c.least_by_imports.result (λ found. (q : Asked) → w ≡ scene_of q → StartsAt q 5 → Settles q 8 found) (λ found. (q : Asked) → w ≡ scene_of q → StartsAt q 4 → Settles q 8 found)
    (λ found more q same before. more q same (goes_on SameNameFault 4 same_name_kind w _ c.in_ok-fault.ensures c.in_default.is q same before))
    c.least_by_imports.ensures

pub returns-clause-apart : goal.returns-clause-apart
returns-clause-apart c =
    let w = c.args.scene.now in
    IfOk-weaker c.least_by_imports.result (λ found. (q : Asked) → w ≡ scene_of q → StartsAt q 5 → Settles q 8 found) (λ found. found ≡ None → (f : ResolveFault) → SameNameFault w f → ⊥)
    (λ found more e. none_of SameNameFault w _ c.in_ok-fault.ensures c.in_default.is)
    c.least_by_imports.ensures

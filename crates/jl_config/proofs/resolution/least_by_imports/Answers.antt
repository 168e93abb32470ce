use Rattle.std.proofs.Common.{◌≡◌}
use Rattle.std.proofs.lemmas.Result.{IfOk-weaker}
use Rattle.jl_config.specs.Located.{Asked, scene_of}
use Rattle.jl_config.specs.Places.{SamePackageFault, OwnPackageFault, ServiceFault, IsLeastSome}
use Rattle.jl_config.specs.Refusals.{fault_cmp}
use Rattle.jl_config.specs.Settled.{StartsAt, Settles}
use Rattle.jl_config.proofs.Assembled.{same_package_kind, own_package_kind, service_kind}
use Rattle.jl_config.proofs.Decided.{settled, goes_on, settles}
use Rattle.jl_config.proofs.resolution.least_by_imports.Goals as goal

pub returns-in-Some : goal.returns-in-Some
returns-in-Some c = λ q same before. settled SamePackageFault 5 same_package_kind c.args.scene.now _ c.in_ok-fault.ensures c.in-Some.fault c.in-Some.is q same before

pub returns-in-Some-2 : goal.returns-in-Some-2
returns-in-Some-2 c = λ q same before.
    settled OwnPackageFault 6 own_package_kind c.args.scene.now _ c.in_ok-fault-2.ensures c.in-Some-2.fault c.in-Some-2.is q same
    (goes_on SamePackageFault 5 same_package_kind c.args.scene.now _ c.in_ok-fault.ensures c.in_default.is q same before)

pub returns : goal.returns
returns c =
    let w = c.args.scene.now in
    IfOk-weaker c.least_service.result (λ found. IsLeastSome fault_cmp (ServiceFault w) found) (λ found. (q : Asked) → w ≡ scene_of q → StartsAt q 5 → Settles q 8 found)
    (λ found sought q same before.
    settles ServiceFault 7 service_kind w found sought q same
    (goes_on OwnPackageFault 6 own_package_kind w _ c.in_ok-fault-2.ensures c.in_default-2.is q same
    (goes_on SamePackageFault 5 same_package_kind w _ c.in_ok-fault.ensures c.in_default.is q same before)))
    c.least_service.ensures

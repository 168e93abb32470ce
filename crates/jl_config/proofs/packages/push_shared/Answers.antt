use Rattle.std.proofs.Common.{◌≤◌, length, arith, subst}
use Rattle.jl_config.specs.Imported.{IsPackageSharedAt}
use Rattle.jl_config.proofs.Collects.{below_none, below_more, below_all}
use Rattle.jl_config.proofs.PackageFaults.{shared_later, shared_within}
use Rattle.jl_config.proofs.packages.push_shared.Goals as goal

pub loop-at-init : goal.loop-at-init
loop-at-init c = below_none _ (IsPackageSharedAt c.args.scene.now c.args.imports.now) 1 (λ i x lt h. let z = shared_later c.args.scene.now c.args.imports.now i x h in omega arith)

pub loop-at-preserved : goal.loop-at-preserved
loop-at-preserved c = below_more _ _ _ (IsPackageSharedAt c.args.scene.now c.args.imports.now) c.loop-at.at c.loop-at.invariant c.in_ok-push_shared_at.ensures

pub returns : goal.returns
returns c =
    let end : length c.args.imports.now.exported ≤ c.loop-at.at = subst (λ n. n ≤ c.loop-at.at) c.len-at-end.ensures c.loop-at-test.false in
    below_all _ _ (IsPackageSharedAt c.args.scene.now c.args.imports.now) c.loop-at.at c.loop-at.invariant (λ i x h. let z = shared_within c.args.scene.now c.args.imports.now i x h in omega arith)

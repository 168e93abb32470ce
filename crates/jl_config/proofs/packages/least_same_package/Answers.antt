use Rattle.std.proofs.Common.{sym, subst, refl, Option}
use Rattle.jl_config.specs.Imported.{IsPackageShared}
use Rattle.jl_config.specs.Places.{IsLeastSome, SamePackageFault}
use Rattle.jl_config.specs.Refusals.{fault_cmp}
use Rattle.jl_config.specs.declared.fault.ResolveFault.{ResolveFault}
use Rattle.jl_config.proofs.PackageFaults.{least_shared}
use Rattle.jl_config.proofs.Collects.{among_first, among_more, among_all, item_among}
use Rattle.jl_config.proofs.packages.least_same_package.Goals as goal

pub push_shared-requires : goal.push_shared-requires
push_shared-requires c = c.requires.only c.imported-item.result (item_among c.args.imports.now c.loop-imported.imported-index c.imported-item.result c.loop-imported-test.true c.imported-item.is)

pub loop-imported-init : goal.loop-imported-init
loop-imported-init c = among_first (IsPackageShared c.args.scene.now) c.args.imports.now _ c.new-shared.ensures.items

pub loop-imported-preserved : goal.loop-imported-preserved
loop-imported-preserved c =
    among_more (IsPackageShared c.args.scene.now) c.args.imports.now c.loop-imported.imported-index c.imported-item.result _ c.loop-imported.shared.items _ c.loop-imported-test.true c.imported-item.is c.loop-imported.invariant c.in_ok-push_shared.ensures

pub returns : goal.returns
returns c =
    subst (λ (o : Option ResolveFault). IsLeastSome fault_cmp (SamePackageFault c.args.scene.now) o) (sym c.fault_of_shared.ensures)
    (least_shared c.args.scene.now c.args.imports.now c.loop-imported.shared.items _ c.least_of.result c.requires
    (among_all (IsPackageShared c.args.scene.now) c.args.imports.now c.loop-imported.imported-index _ _ c.loop-imported-test.false c.loop-imported.invariant)
    c.least_of.ensures (λ x y. refl))

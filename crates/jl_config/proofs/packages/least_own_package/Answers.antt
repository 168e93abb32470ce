use Rattle.std.proofs.Common.{sym, subst, refl, Option}
use Rattle.jl_config.specs.Imported.{IsOwnedIn}
use Rattle.jl_config.specs.Places.{IsLeastSome, OwnPackageFault}
use Rattle.jl_config.specs.Refusals.{fault_cmp}
use Rattle.jl_config.specs.declared.fault.ResolveFault.{ResolveFault}
use Rattle.jl_config.proofs.PackageFaults.{least_owned}
use Rattle.jl_config.proofs.Collects.{among_first, among_more, among_all, item_among}
use Rattle.jl_config.proofs.packages.least_own_package.Goals as goal

pub push_owned_in-requires : goal.push_owned_in-requires
push_owned_in-requires c = c.requires.only c.imported-item.result (item_among c.args.imports.now c.loop-imported.imported-index c.imported-item.result c.loop-imported-test.true c.imported-item.is)

pub loop-imported-init : goal.loop-imported-init
loop-imported-init c = among_first (IsOwnedIn c.args.scene.now) c.args.imports.now _ c.new-owned.ensures.items

pub loop-imported-preserved : goal.loop-imported-preserved
loop-imported-preserved c =
    among_more (IsOwnedIn c.args.scene.now) c.args.imports.now c.loop-imported.imported-index c.imported-item.result _ c.loop-imported.owned.items _ c.loop-imported-test.true c.imported-item.is c.loop-imported.invariant c.in_ok-push_owned_in.ensures

pub returns : goal.returns
returns c =
    subst (λ (o : Option ResolveFault). IsLeastSome fault_cmp (OwnPackageFault c.args.scene.now) o) (sym c.fault_of_owned.ensures)
    (least_owned c.args.scene.now c.args.imports.now c.loop-imported.owned.items _ c.least_of.result c.requires
    (among_all (IsOwnedIn c.args.scene.now) c.args.imports.now c.loop-imported.imported-index _ _ c.loop-imported-test.false c.loop-imported.invariant)
    c.least_of.ensures (λ x y. refl))

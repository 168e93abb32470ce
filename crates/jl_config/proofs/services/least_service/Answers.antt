use Rattle.std.proofs.Common.{sym, subst, refl, Option}
use Rattle.jl_config.specs.Imported.{IsUnseenIn}
use Rattle.jl_config.specs.Places.{IsLeastSome, ServiceFault}
use Rattle.jl_config.specs.Refusals.{fault_cmp}
use Rattle.jl_config.specs.declared.fault.ResolveFault.{ResolveFault}
use Rattle.jl_config.proofs.ServiceFaults.{least_unseen}
use Rattle.jl_config.proofs.Collects.{among_first, among_more, among_all, item_among}
use Rattle.jl_config.proofs.services.least_service.Goals as goal

pub push_unseen_in-requires : goal.push_unseen_in-requires
push_unseen_in-requires c = c.requires.imports.only c.imported-item.result (item_among c.args.imports.now c.loop-imported.imported-index c.imported-item.result c.loop-imported-test.true c.imported-item.is)

pub loop-imported-init : goal.loop-imported-init
loop-imported-init c = among_first (IsUnseenIn c.args.scene.now) c.args.imports.now _ c.new-unseen.ensures.items

pub loop-imported-preserved : goal.loop-imported-preserved
loop-imported-preserved c =
    among_more (IsUnseenIn c.args.scene.now) c.args.imports.now c.loop-imported.imported-index c.imported-item.result _ c.loop-imported.unseen.items _ c.loop-imported-test.true c.imported-item.is c.loop-imported.invariant c.in_ok-push_unseen_in.ensures

pub returns : goal.returns
returns c =
    subst (λ (o : Option ResolveFault). IsLeastSome fault_cmp (ServiceFault c.args.scene.now) o) (sym c.fault_of.ensures)
    (least_unseen c.args.scene.now c.requires.apart c.args.imports.now c.loop-imported.unseen.items _ c.least_of.result c.requires.imports
    (among_all (IsUnseenIn c.args.scene.now) c.args.imports.now c.loop-imported.imported-index _ _ c.loop-imported-test.false c.loop-imported.invariant)
    c.least_of.ensures (λ x y. refl))

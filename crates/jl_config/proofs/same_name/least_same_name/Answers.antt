use Rattle.std.proofs.Common.{sym, subst, refl, Option}
use Rattle.jl_config.specs.Collected.{IsShared}
use Rattle.jl_config.specs.Places.{IsLeastSome, SameNameFault}
use Rattle.jl_config.specs.Refusals.{fault_cmp}
use Rattle.jl_config.specs.declared.fault.ResolveFault.{ResolveFault}
use Rattle.jl_config.proofs.SameNames.{least_same}
use Rattle.jl_config.proofs.Collects.{among_first, among_more, among_all, item_among}
use Rattle.jl_config.proofs.same_name.least_same_name.Goals as goal

pub push_shared-requires : goal.push_shared-requires
push_shared-requires c = c.requires.only c.reading-item.result (item_among c.args.readings.now c.loop-reading.reading-index c.reading-item.result c.loop-reading-test.true c.reading-item.is)

pub loop-reading-init : goal.loop-reading-init
loop-reading-init c = among_first (IsShared c.args.scene.now) c.args.readings.now _ c.new-shared.ensures.items

pub loop-reading-preserved : goal.loop-reading-preserved
loop-reading-preserved c =
    among_more (IsShared c.args.scene.now) c.args.readings.now c.loop-reading.reading-index c.reading-item.result _ c.loop-reading.shared.items _ c.loop-reading-test.true c.reading-item.is c.loop-reading.invariant c.in_ok-push_shared.ensures

pub returns : goal.returns
returns c =
    subst (λ (o : Option ResolveFault). IsLeastSome fault_cmp (SameNameFault c.args.scene.now) o) (sym c.fault_of.ensures)
    (least_same c.args.scene.now c.args.readings.now c.loop-reading.shared.items _ c.least_of.result c.requires
    (among_all (IsShared c.args.scene.now) c.args.readings.now c.loop-reading.reading-index _ _ c.loop-reading-test.false c.loop-reading.invariant)
    c.least_of.ensures (λ x y. refl))

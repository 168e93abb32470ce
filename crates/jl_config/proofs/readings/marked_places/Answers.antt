use Rattle.jl_config.specs.ReadRows.{marked_place}
use Rattle.jl_config.proofs.Lists.{filter_map_step, grown}
use Rattle.jl_config.proofs.readings.marked_places.Goals as goal

pub loop-placed-preserved : goal.loop-placed-preserved
loop-placed-preserved c =
    filter_map_step (marked_place c.args.marks.now) c.args.order.now c.loop-placed.placed-index c.placed-item.result c.loop-placed.places.items c.push_some.new.places.items c.loop-placed-test.true c.placed-item.is c.loop-placed.invariant (grown c.loop-placed.places.items c.place_if_marked.ensures c.in_ok-push_some.ensures)

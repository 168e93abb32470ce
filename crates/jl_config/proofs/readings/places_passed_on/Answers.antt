use Rattle.jl_config.specs.ReadRows.{passed_place}
use Rattle.jl_config.proofs.Lists.{filter_map_step, grown}
use Rattle.jl_config.proofs.readings.places_passed_on.Goals as goal

pub loop-entry-preserved : goal.loop-entry-preserved
loop-entry-preserved c =
    filter_map_step (passed_place c.args.scene.now c.args.marks.now c.args.candidate.now) _ c.loop-entry.entry-index c.entry-item.result c.loop-entry.places.items c.push_some.new.places.items c.loop-entry-test.true c.entry-item.is c.loop-entry.invariant (grown c.loop-entry.places.items c.place_passed_on.ensures c.in_ok-push_some.ensures)

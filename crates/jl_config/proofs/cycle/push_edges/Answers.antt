use Rattle.jl_config.specs.Cycles.{edge_place}
use Rattle.jl_config.proofs.Lists.{filter_map_behind, grown}
use Rattle.jl_config.proofs.cycle.push_edges.Goals as goal

pub loop-entry-preserved : goal.loop-entry-preserved
loop-entry-preserved c =
    filter_map_behind (edge_place c.args.scene.now c.args.marks.now) c.args.entries.now c.loop-entry.entry-index c.entry-item.result c.args.row.now.items c.loop-entry.row.items c.push_some.new.places.items
    c.loop-entry-test.true c.entry-item.is c.loop-entry.invariant (grown c.loop-entry.row.items c.place_of_edge.ensures c.in_ok-push_some.ensures)

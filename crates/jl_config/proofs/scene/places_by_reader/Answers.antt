use Rattle.jl_config.specs.Lineages.{is_reader}
use Rattle.jl_config.specs.Tables.{listed}
use Rattle.jl_config.proofs.PlaceTables.{more_places}
use Rattle.jl_config.proofs.scene.places_by_reader.Goals as goal

pub loop-at-preserved : goal.loop-at-preserved
loop-at-preserved c = λ name.
    more_places (is_reader name) c.args.reads.now c.loop-at.at c.index-reads-at.result (listed c.loop-at.table name) (listed c.note_place.new.table name) c.loop-at-test.true c.index-reads-at.is (c.loop-at.invariant name) (c.in_ok-note_place.ensures name)

use Rattle.jl_config.specs.Lineages.{is_named}
use Rattle.jl_config.specs.Tables.{listed}
use Rattle.jl_config.proofs.PlaceTables.{more_places}
use Rattle.jl_config.proofs.scene.places_by_name.Goals as goal

pub loop-at-preserved : goal.loop-at-preserved
loop-at-preserved c = λ name.
    more_places (is_named name) c.args.candidates.now c.loop-at.at c.index-candidates-at.result (listed c.loop-at.table name) (listed c.note_place.new.table name) c.loop-at-test.true c.index-candidates-at.is (c.loop-at.invariant name) (c.in_ok-note_place.ensures name)

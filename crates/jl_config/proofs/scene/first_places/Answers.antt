use Rattle.std.proofs.Common.{nat_eq}
use Rattle.std.specs.Cmp.Lexicographic.{pointwise}
use Rattle.indexmap.specs.IndexMap.{get}
use Rattle.jl_config.proofs.Scenes.{first_of_more}
use Rattle.jl_config.proofs.scene.first_places.Goals as goal

pub loop-at-preserved : goal.loop-at-preserved
loop-at-preserved c = λ name.
    first_of_more c.args.candidates.now c.loop-at.at c.index-candidates-at.result name (get (pointwise nat_eq) c.loop-at.places name) _ c.loop-at-test.true c.index-candidates-at.is (c.loop-at.invariant name) (c.in_ok-note_first.ensures name)

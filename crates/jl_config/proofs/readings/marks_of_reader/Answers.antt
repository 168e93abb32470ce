use Rattle.std.proofs.Common.{◌∙◌, ◌++◌, ◌∷◌, [], ap, get_or}
use Rattle.jl_config.proofs.ReadMarks.{rows_within, starts_within, marks_for}
use Rattle.jl_config.proofs.readings.marks_of_reader.Goals as goal

pub closure-requires-clause-graph : goal.closure-requires-clause-graph
closure-requires-clause-graph c = rows_within c.args.scene.now c.args.marks.now c.args.next.now c.requires.rows

pub closure-requires-clause-within : goal.closure-requires-clause-within
closure-requires-clause-within c =
    starts_within c.args.scene.now c.args.marks.now c.index-candidates-place.result c.args.place c.args.next.now c.as_slice.result.now c.requires.rows
    (c.as_slice.ensures.value ∙ c.in_ok-push.ensures.items ∙ ap (λ l. l ++ c.args.place ∷ []) c.in_ok-starts.ensures) c.requires.within

pub returns : goal.returns
returns c = λ a at.
    marks_for c.args.scene.now c.args.marks.now a c.args.place c.args.next.now c.as_slice.result.now c.in_ok-closure.field-0.items c.requires.rows c.index-candidates-place.result at c.requires.within (c.index-candidates-place.is ∙ ap (λ l. get_or l c.args.place c.index-candidates-place.result) c.candidates.ensures)
    (c.as_slice.ensures.value ∙ c.in_ok-push.ensures.items ∙ ap (λ l. l ++ c.args.place ∷ []) c.in_ok-starts.ensures)
    c.in_ok-closure.ensures.one_each c.in_ok-closure.ensures.only c.in_ok-closure.ensures.all

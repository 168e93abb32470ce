use Rattle.std.proofs.Common.{◌≡◌, ◌≢◌, ◌∙◌, sym, Some, slice_get}
use Rattle.jl_config.specs.Imported.{IsExportedAt, IsExportedBy}
use Rattle.jl_config.specs.Located.{candidate_name}
use Rattle.jl_config.specs.ReadRows.{name_at}
use Rattle.jl_config.proofs.Lists.{item_here}
use Rattle.jl_config.proofs.Collects.{adds_none, adds_same}
use Rattle.jl_config.proofs.Names.{text_is, text_differs}
use Rattle.jl_config.proofs.ImportLists.{own_exports_nothing, exported_here, here_exported}
use Rattle.jl_config.proofs.imports.push_exports_at.Goals as goal

pub returns-then-eq : goal.returns-then-eq
returns-then-eq c =
    let at : slice_get c.args.scene.now.candidates c.args.place ≡ Some c.index-candidates-place.result = item_here c.args.scene.now.candidates c.candidates.result.now c.args.place c.index-candidates-place.result c.candidates.ensures c.requires.place c.index-candidates-place.is in
    adds_none _ (IsExportedAt c.args.scene.now c.args.reader c.args.place) (own_exports_nothing c.args.scene.now c.args.reader c.args.place c.index-candidates-place.result at
    (text_is (candidate_name c.index-candidates-place.result) c.name_at-name.result.now (sym c.eq.ensures ∙ c.if-eq.true) ∙ c.name_at-name.ensures))

pub returns : goal.returns
returns c =
    let at : slice_get c.args.scene.now.candidates c.args.place ≡ Some c.index-candidates-place.result = item_here c.args.scene.now.candidates c.candidates.result.now c.args.place c.index-candidates-place.result c.candidates.ensures c.requires.place c.index-candidates-place.is in
    let other : candidate_name c.index-candidates-place.result ≢ name_at c.args.scene.now c.args.reader = λ e.
    text_differs (candidate_name c.index-candidates-place.result) c.name_at-name.result.now (sym c.eq.ensures ∙ c.if-eq.false) (e ∙ sym c.name_at-name.ensures) in
    adds_same _ _ (IsExportedBy (name_at c.args.scene.now c.args.reader) c.index-candidates-place.result) (IsExportedAt c.args.scene.now c.args.reader c.args.place)
    (rw c.name_at-name.ensures at c.in_ok-push_exports.ensures)
    (exported_here c.args.scene.now c.args.reader c.args.place c.index-candidates-place.result at other) (here_exported c.args.scene.now c.args.reader c.args.place c.index-candidates-place.result at)

use Rattle.std.proofs.Common.{subst, ⊎_elim, []}
use Rattle.jl_logic.proofs.Rising.{contains_nothing}
use Rattle.jl_config.specs.Collected.{Adds, Among}
use Rattle.jl_config.specs.Imported.{IsExportedAt}
use Rattle.jl_config.proofs.Collects.{number_more, among_all}
use Rattle.jl_config.proofs.ImportLists.{exported_exact}
use Rattle.jl_config.proofs.ReadOrders.{from_any}
use Rattle.jl_config.proofs.imports.exported_to.Goals as goal

pub loop-place-preserved : goal.loop-place-preserved
loop-place-preserved c =
    number_more (IsExportedAt c.args.scene.now c.args.reading.now.reader) c.as_slice-place-items.result.now c.loop-place.place-index _ c.loop-place.exported.items _ c.loop-place-test.true c.loop-place.invariant c.in_ok-push_exports_at.ensures

pub returns-clause-only : goal.returns-clause-only
returns-clause-only c = λ e k.
    let all : Adds [] c.loop-place.exported.items (Among (IsExportedAt c.args.scene.now c.args.reading.now.reader) c.args.reading.now.read) =
    subst (λ l. Adds [] c.loop-place.exported.items (Among (IsExportedAt c.args.scene.now c.args.reading.now.reader) l)) c.as_slice-place-items.ensures
    (among_all (IsExportedAt c.args.scene.now c.args.reading.now.reader) c.as_slice-place-items.result.now c.loop-place.place-index _ _ c.loop-place-test.false c.loop-place.invariant) in
    ⊎_elim (λ n. contains_nothing e n) (λ h. h) (all.only e (c.in_ok-sorted.ensures.only e k))

pub returns-clause-all : goal.returns-clause-all
returns-clause-all c = λ e k.
    let all : Adds [] c.loop-place.exported.items (Among (IsExportedAt c.args.scene.now c.args.reading.now.reader) c.args.reading.now.read) =
    subst (λ l. Adds [] c.loop-place.exported.items (Among (IsExportedAt c.args.scene.now c.args.reading.now.reader) l)) c.as_slice-place-items.ensures
    (among_all (IsExportedAt c.args.scene.now c.args.reading.now.reader) c.as_slice-place-items.result.now c.loop-place.place-index _ _ c.loop-place-test.false c.loop-place.invariant) in
    from_any exported_exact c.loop-place.exported.items c.in_ok-sorted.sorted.items e (all.all e k) c.in_ok-sorted.ensures.all

use Rattle.std.proofs.Common.{◌≡◌, subst, Some, slice_get}
use Rattle.jl_config.specs.Collected.{Adds, Among}
use Rattle.jl_config.specs.Imported.{IsOwned, IsOwnedIn}
use Rattle.jl_config.proofs.Lists.{item_here}
use Rattle.jl_config.proofs.Collects.{among_more, among_all, adds_same}
use Rattle.jl_config.proofs.PackageFaults.{owned_in, owned_from, import_within}
use Rattle.jl_config.proofs.packages.push_owned_in.Goals as goal

pub loop-exported-preserved : goal.loop-exported-preserved
loop-exported-preserved c =
    among_more (IsOwned c.index-candidates-imports.result) c.as_slice-exported-items.result.now c.loop-exported.exported-index c.exported-item.result _ c.loop-exported.owned.items _ c.loop-exported-test.true c.exported-item.is c.loop-exported.invariant c.in_ok-push_owned.ensures

pub returns : goal.returns
returns c =
    let w = c.args.scene.now in
    let m = c.args.imports.now in
    let s = c.index-candidates-imports.result in
    let at : slice_get w.candidates m.reader ≡ Some s = item_here w.candidates c.candidates.result.now m.reader s c.candidates.ensures (import_within w m c.requires) c.index-candidates-imports.is in
    let whole : Adds c.args.owned.now.items c.loop-exported.owned.items (Among (IsOwned s) m.exported) =
    subst (λ l. Adds c.args.owned.now.items c.loop-exported.owned.items (Among (IsOwned s) l)) c.as_slice-exported-items.ensures
    (among_all (IsOwned s) c.as_slice-exported-items.result.now c.loop-exported.exported-index _ _ c.loop-exported-test.false c.loop-exported.invariant) in
    adds_same _ _ (Among (IsOwned s) m.exported) (IsOwnedIn w m) whole (owned_in w m s at) (owned_from w m s at)

use Rattle.std.proofs.Common.{subst}
use Rattle.jl_config.specs.Collected.{Adds, Among}
use Rattle.jl_config.specs.Imported.{IsGranted, IsExportedBy}
use Rattle.jl_config.proofs.Collects.{among_more, among_all, adds_same}
use Rattle.jl_config.proofs.ImportLists.{granted_is_exported, exported_is_granted}
use Rattle.jl_config.proofs.imports.push_exports.Goals as goal

pub loop-grant-preserved : goal.loop-grant-preserved
loop-grant-preserved c =
    among_more (IsGranted c.args.reader.now c.args.candidate.now) c.as_slice-grant-items.result.now c.loop-grant.grant-index c.grant-item.result _ c.loop-grant.exported.items _ c.loop-grant-test.true c.grant-item.is c.loop-grant.invariant c.in_ok-push_grant.ensures

pub returns : goal.returns
returns c =
    let whole : Adds c.args.exported.now.items c.loop-grant.exported.items (Among (IsGranted c.args.reader.now c.args.candidate.now) c.args.candidate.now.observed.declaration.exports) =
    subst (λ l. Adds c.args.exported.now.items c.loop-grant.exported.items (Among (IsGranted c.args.reader.now c.args.candidate.now) l)) c.as_slice-grant-items.ensures
    (among_all (IsGranted c.args.reader.now c.args.candidate.now) c.as_slice-grant-items.result.now c.loop-grant.grant-index _ _ c.loop-grant-test.false c.loop-grant.invariant) in
    adds_same _ _ (Among (IsGranted c.args.reader.now c.args.candidate.now) c.args.candidate.now.observed.declaration.exports) (IsExportedBy c.args.reader.now c.args.candidate.now) whole
    (granted_is_exported c.args.reader.now c.args.candidate.now) (exported_is_granted c.args.reader.now c.args.candidate.now)

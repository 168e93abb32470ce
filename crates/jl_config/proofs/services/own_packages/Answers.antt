use Rattle.std.proofs.Common.{◌∙◌, subst}
use Rattle.jl_config.specs.Collected.{Adds, Among}
use Rattle.jl_config.specs.Imported.{IsOwnExport}
use Rattle.jl_config.proofs.Collects.{among_more, among_all}
use Rattle.jl_config.proofs.ServiceFaults.{own_right}
use Rattle.jl_config.proofs.services.own_packages.Goals as goal

pub loop-grant-preserved : goal.loop-grant-preserved
loop-grant-preserved c =
    among_more (IsOwnExport c.args.candidate.now) c.as_slice-grant-items.result.now c.loop-grant.grant-index c.grant-item.result _ c.loop-grant.own.items _ c.loop-grant-test.true c.grant-item.is c.loop-grant.invariant c.in_ok-push_own_export.ensures

pub returns : goal.returns
returns c =
    own_right c.args.candidate.now c.into_vec-own.result.items c.loop-grant.own.items c.in_ok-sorted.sorted.items (c.into_vec-own.ensures ∙ c.in_ok-copy.ensures)
    (subst (λ l. Adds c.into_vec-own.result.items c.loop-grant.own.items (Among (IsOwnExport c.args.candidate.now) l)) c.as_slice-grant-items.ensures
    (among_all (IsOwnExport c.args.candidate.now) c.as_slice-grant-items.result.now c.loop-grant.grant-index _ _ c.loop-grant-test.false c.loop-grant.invariant))
    c.in_ok-sorted.ensures

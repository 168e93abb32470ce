use Rattle.std.proofs.Common.{subst}
use Rattle.jl_config.specs.Collected.{Adds, Among}
use Rattle.jl_config.specs.Imported.{IsUnseen}
use Rattle.jl_config.proofs.Collects.{among_more, among_all}
use Rattle.jl_config.proofs.services.push_unseen_uses.Goals as goal

pub loop-service-preserved : goal.loop-service-preserved
loop-service-preserved c =
    among_more (IsUnseen c.args.candidate.now c.args.exported.now) c.as_slice-service-items.result.now c.loop-service.service-index c.service-item.result _ c.loop-service.unseen.items _ c.loop-service-test.true c.service-item.is c.loop-service.invariant c.in_ok-push_unseen.ensures

pub returns : goal.returns
returns c =
    subst (λ l. Adds c.args.unseen.now.items c.loop-service.unseen.items (Among (IsUnseen c.args.candidate.now c.args.exported.now) l)) c.as_slice-service-items.ensures
    (among_all (IsUnseen c.args.candidate.now c.args.exported.now) c.as_slice-service-items.result.now c.loop-service.service-index _ _ c.loop-service-test.false c.loop-service.invariant)

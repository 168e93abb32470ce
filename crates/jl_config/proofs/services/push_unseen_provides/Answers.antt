use Rattle.std.proofs.Common.{subst}
use Rattle.jl_config.specs.Collected.{Adds, Among}
use Rattle.jl_config.specs.Imported.{IsUnseenProvided}
use Rattle.jl_config.proofs.Collects.{among_more, among_all}
use Rattle.jl_config.proofs.services.push_unseen_provides.Goals as goal

pub loop-provided-preserved : goal.loop-provided-preserved
loop-provided-preserved c =
    among_more (IsUnseenProvided c.args.candidate.now c.args.exported.now) c.as_slice-provided-items.result.now c.loop-provided.provided-index c.provided-item.result _ c.loop-provided.unseen.items _ c.loop-provided-test.true c.provided-item.is c.loop-provided.invariant c.in_ok-push_unseen.ensures

pub returns : goal.returns
returns c =
    subst (λ l. Adds c.args.unseen.now.items c.loop-provided.unseen.items (Among (IsUnseenProvided c.args.candidate.now c.args.exported.now) l)) c.as_slice-provided-items.ensures
    (among_all (IsUnseenProvided c.args.candidate.now c.args.exported.now) c.as_slice-provided-items.result.now c.loop-provided.provided-index _ _ c.loop-provided-test.false c.loop-provided.invariant)

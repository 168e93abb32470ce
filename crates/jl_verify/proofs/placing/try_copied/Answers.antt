use Rattle.std.proofs.Common.{subst}
use Rattle.jl_verify.specs.Comes.{Comes}
use Rattle.jl_verify.specs.Frames.{Frame}
use Rattle.jl_verify.specs.Rules.{handled}
use Rattle.jl_verify.specs.Tried.{failed_of}
use Rattle.jl_verify.proofs.placing.try_copied.Goals as goal

pub returns-clause-tried : goal.returns-clause-tried
returns-clause-tried g c =
    subst (λ (f : Frame). Comes g.H.Hierarchy.step (handled c.args.c.now c.args.had_room f c.args.i.now c.args.is_last) c.args.h.now (failed_of c.try_handlers.result) c.try_handlers.new.h) c.in_ok-copy.ensures c.try_handlers.ensures.tried

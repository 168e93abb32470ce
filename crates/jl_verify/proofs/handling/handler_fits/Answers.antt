use Rattle.std.proofs.Common.{[], ◌∷◌, subst}
use Rattle.jl_verify.specs.Comes.{Comes}
use Rattle.jl_verify.specs.Moves.{both}
use Rattle.jl_verify.specs.Rules.{goes_to_declared, declared_at, catches}
use Rattle.jl_verify.proofs.handling.handler_fits.Goals as goal

pub returns : goal.returns
returns g c = subst (λ item. Comes g.H.Hierarchy.step (both (goes_to_declared (record c.args.f.now { stack = item ∷ [] }) (declared_at c.args.c.now c.args.handler.now.target)) (catches c.args.c.now c.args.handler.now)) c.args.h.now c.enters.result c.enters.new.h) c.in_ok-item.ensures c.enters.ensures

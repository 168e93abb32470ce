use Rattle.std.proofs.Common.{[], ◌∷◌}
use Rattle.jl_verify.specs.Rules.{goes_to_declared, declared_at, catches}
use Rattle.jl_verify.proofs.Comings.{both_err}
use Rattle.jl_verify.proofs.Prefixes.{both_on, both_off}
use Rattle.jl_verify.proofs.handling.enters.Goals as goal

pub returns-in-Ok-true : goal.returns-in-Ok-true
returns-in-Ok-true g c =
    both_on g.H.Hierarchy.step (goes_to_declared (record c.args.f.now { stack = c.args.item.now ∷ [] }) (declared_at c.args.c.now c.args.handler.now.target)) (catches c.args.c.now c.args.handler.now) c.args.h.now c.entered_goes_to_declared.new.h c.catches.result c.catches.new.h
    c.in-Ok-true.field-0 c.in-Ok-true.field-0-test c.in-Ok-true.ensures c.catches.ensures

pub returns-in-Ok-false : goal.returns-in-Ok-false
returns-in-Ok-false g c =
    both_off g.H.Hierarchy.step (goes_to_declared (record c.args.f.now { stack = c.args.item.now ∷ [] }) (declared_at c.args.c.now c.args.handler.now.target)) (catches c.args.c.now c.args.handler.now) c.args.h.now c.entered_goes_to_declared.new.h
    c.in-Ok-false.field-0 c.in-Ok-false.field-0-test c.in-Ok-false.ensures

pub returns-in-Err : goal.returns-in-Err
returns-in-Err g c =
    both_err g.H.Hierarchy.step (goes_to_declared (record c.args.f.now { stack = c.args.item.now ∷ [] }) (declared_at c.args.c.now c.args.handler.now.target)) (catches c.args.c.now c.args.handler.now) c.in-Err.fault c.args.h.now c.entered_goes_to_declared.new.h c.in-Err.ensures

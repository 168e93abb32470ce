use Rattle.std.proofs.Common.{◌+◌, drop, arith}
use Rattle.jl_verify.specs.Rules.{handlers_fit}
use Rattle.jl_verify.proofs.AskedLists.{handlers_next, handlers_done}
use Rattle.jl_verify.proofs.Prefixes.{further, stopped, failed, ended}
use Rattle.jl_verify.proofs.handling.handlers_fit.Goals as goal

pub loop-handler-preserved : goal.loop-handler-preserved
loop-handler-preserved g c =
    further g.H.Hierarchy.step (handlers_fit c.args.c.now c.args.f.now c.args.i.now c.args.handlers.now) (handlers_fit c.args.c.now c.args.f.now c.args.i.now (drop c.loop-handler.handler-index c.args.handlers.now)) _
    (handlers_fit c.args.c.now c.args.f.now c.args.i.now (drop (c.loop-handler.handler-index + 1) c.args.handlers.now)) c.args.h.now c.loop-handler.h c.covered_fits.new.h c.in-Ok-true.field-0
    (handlers_next c.args.c.now c.args.f.now c.args.i.now c.args.handlers.now c.loop-handler.handler-index (record { start = 0; end = 0; target = 0; catch_type = 0 }) (omega arith)) c.in-Ok-true.field-0-test c.loop-handler.invariant c.in-Ok-true.ensures

pub returns-in-Ok-false : goal.returns-in-Ok-false
returns-in-Ok-false g c =
    stopped g.H.Hierarchy.step (handlers_fit c.args.c.now c.args.f.now c.args.i.now c.args.handlers.now) (handlers_fit c.args.c.now c.args.f.now c.args.i.now (drop c.loop-handler.handler-index c.args.handlers.now)) _
    (handlers_fit c.args.c.now c.args.f.now c.args.i.now (drop (c.loop-handler.handler-index + 1) c.args.handlers.now)) c.args.h.now c.loop-handler.h c.covered_fits.new.h c.in-Ok-false.field-0
    (handlers_next c.args.c.now c.args.f.now c.args.i.now c.args.handlers.now c.loop-handler.handler-index (record { start = 0; end = 0; target = 0; catch_type = 0 }) (omega arith)) c.in-Ok-false.field-0-test c.loop-handler.invariant c.in-Ok-false.ensures

pub returns-in-Err : goal.returns-in-Err
returns-in-Err g c =
    failed g.H.Hierarchy.step (handlers_fit c.args.c.now c.args.f.now c.args.i.now c.args.handlers.now) (handlers_fit c.args.c.now c.args.f.now c.args.i.now (drop c.loop-handler.handler-index c.args.handlers.now)) _
    (handlers_fit c.args.c.now c.args.f.now c.args.i.now (drop (c.loop-handler.handler-index + 1) c.args.handlers.now)) c.args.h.now c.loop-handler.h c.covered_fits.new.h c.in-Err.fault
    (handlers_next c.args.c.now c.args.f.now c.args.i.now c.args.handlers.now c.loop-handler.handler-index (record { start = 0; end = 0; target = 0; catch_type = 0 }) (omega arith)) c.loop-handler.invariant c.in-Err.ensures

pub returns : goal.returns
returns g c =
    ended g.H.Hierarchy.step (handlers_fit c.args.c.now c.args.f.now c.args.i.now c.args.handlers.now) (handlers_fit c.args.c.now c.args.f.now c.args.i.now (drop c.loop-handler.handler-index c.args.handlers.now)) c.args.h.now c.loop-handler.h
    (handlers_done c.args.c.now c.args.f.now c.args.i.now c.args.handlers.now c.loop-handler.handler-index (omega arith)) c.loop-handler.invariant

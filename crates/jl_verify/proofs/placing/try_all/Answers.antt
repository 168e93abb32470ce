use Rattle.jl_verify.specs.Tried.{failed_of}
use Rattle.jl_verify.proofs.Placings.{falls_here, declared_here}
use Rattle.jl_verify.proofs.placing.try_all.Goals as goal

pub returns-in-None-Some-clause-tried : goal.returns-in-None-Some-clause-tried
returns-in-None-Some-clause-tried g c =
    falls_here g.H.Hierarchy.step c.args.c.now c.args.i.now c.args.is_last c.args.falling c.in-None-Some.f c.has_room_or_none-had_room.result c.args.h.now (failed_of c.try_handlers.result) c.try_handlers.new.h
    c.has_room_or_none-had_room.ensures c.in-None-Some.is-1 c.in-None-Some.ensures c.try_handlers.ensures.tried

pub returns-in-Some-default-clause-tried : goal.returns-in-Some-default-clause-tried
returns-in-Some-default-clause-tried g c =
    declared_here g.H.Hierarchy.step c.args.c.now c.args.i.now c.args.is_last c.args.falling c.in-Some-default.declared.now c.has_room_or_none-had_room.result c.args.h.now (failed_of c.try_declared.result) c.try_declared.new.h
    c.has_room_or_none-had_room.ensures c.in-Some-default.ensures c.try_declared.ensures.tried

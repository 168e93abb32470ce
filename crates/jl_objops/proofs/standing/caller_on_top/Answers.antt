use Rattle.jl_objops.proofs.Callers.{method_there}
use Rattle.jl_objops.proofs.standing.caller_on_top.Goals as goal

pub method_owner-place-requires : goal.method_owner-place-requires
method_owner-place-requires c = method_there c.args.world.now _ c.in-Method.m c.in-Method.ensures c.requires.method

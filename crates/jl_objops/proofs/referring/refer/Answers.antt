use Rattle.std.proofs.Common.{◌<◌, length, subst}
use Rattle.jl_objops.proofs.Refusing.{thrown}
use Rattle.jl_objops.proofs.referring.refer.Goals as goal

pub returns-in-Err-Throws-clause-refers : goal.returns-in-Err-Throws-clause-refers
returns-in-Err-Throws-clause-refers g c = λ files told.
    thrown files c.args.at c.args.world.now c.resolve_ref.new.self c.args.d c.args.index c.in-Err-Throws.kind c.in-Err-Throws.message (subst (λ l. c.args.index < length l) c.pool_of.ensures.row c.if-index-pool_of.false) (rw c.in-Err-Throws.field-0-is at (c.in-Err-Throws.ensures.resolves files told))

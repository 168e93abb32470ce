use Rattle.std.proofs.Common.{◌∙◌, sym}
use Rattle.jl_verify.proofs.StoredLists.{stored_set}
use Rattle.jl_verify.proofs.moving.store_slot.Goals as goal

pub returns : goal.returns
returns c = sym (stored_set c.fill.new.locals.items c.args.at c.args.item c.in_ok-fill.ensures.long) ∙ c.in_ok-fill.ensures.same c.args.item

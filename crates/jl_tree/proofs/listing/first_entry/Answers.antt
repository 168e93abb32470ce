use Rattle.std.proofs.Common.{arith}
use Rattle.jl_tree.proofs.Below.{plain_entry}
use Rattle.jl_tree.proofs.listing.first_entry.Goals as goal

pub returns-in_ok-from_text-in-None : goal.returns-in_ok-from_text-in-None
returns-in_ok-from_text-in-None c =
    plain_entry c.args.rest.now c.in_ok-from_text-in-None.field-0 c.in_ok-from_text-in-None.ensures (c.in-None.ensures.byte (omega arith) (λ w o h. h))

use Rattle.jl_verify.proofs.Cuts.{params_cut, returned_cut}
use Rattle.jl_verify.proofs.methods.method_items.Goals as goal

pub items_of-requires : goal.items_of-requires
items_of-requires c =
    let is = rw c.in-Ok-Method.field-0-is at (rw c.as_bytes.ensures.value at c.in-Ok-Method.ensures.found) in
    rw c.as_slice.ensures (params_cut c.args.desc.now c.in-Ok-Method.params c.in-Ok-Method.result c.utf8.desc is)

pub result_of-requires : goal.result_of-requires
result_of-requires c = λ t e.
    let is = rw c.in-Ok-Method.field-0-is at (rw c.as_bytes.ensures.value at c.in-Ok-Method.ensures.found) in
    returned_cut c.args.desc.now c.in-Ok-Method.params t c.utf8.desc (rw e at is)

use Rattle.jl_verify.proofs.Cuts.{field_cut}
use Rattle.jl_verify.proofs.methods.field_item.Goals as goal

pub item_of-requires : goal.item_of-requires
item_of-requires c = field_cut c.args.desc.now c.in-Ok-Field.found c.utf8.desc (rw c.in-Ok-Field.field-0-is at (rw c.as_bytes.ensures.value at c.in-Ok-Field.ensures.found))

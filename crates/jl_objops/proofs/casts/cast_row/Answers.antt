use Rattle.std.proofs.Common.{sym, Some}
use Rattle.jl_objops.proofs.Ending.{tested_so}
use Rattle.jl_objops.proofs.casts.cast_row.Goals as goal

pub returns-in-Ok-Some-clause-row : goal.returns-in-Ok-Some-clause-row
returns-in-Ok-Some-clause-row g c = λ files told.
    tested_so c.args.store.now _ c.args.world.now _ _ _ (Some c.in-Ok-Some.o) _ (sym (rw c.in-Ok-Some.field-0-is at c.in-Ok-Some.ensures.value)) (c.cast_object.ensures.row files told)

use Rattle.std.proofs.Common.{refl}
use Rattle.jl_base.specs.Table.{values_rows}
use Rattle.jl_base.proofs.table.values.rows.Goals as goal

pub returns : goal.returns
unfolding values_rows
returns c = refl

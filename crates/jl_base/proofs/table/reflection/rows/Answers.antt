use Rattle.std.proofs.Common.{refl}
use Rattle.jl_base.specs.Table.{reflection_rows}
use Rattle.jl_base.proofs.table.reflection.rows.Goals as goal

pub returns : goal.returns
unfolding reflection_rows
returns c = refl

use Rattle.std.proofs.Common.{refl}
use Rattle.jl_base.specs.Table.{errors_rows}
use Rattle.jl_base.proofs.table.errors.rows.Goals as goal

pub returns : goal.returns
unfolding errors_rows
returns c = refl

use Rattle.std.proofs.Common.{refl}
use Rattle.jl_base.specs.Table.{system_rows}
use Rattle.jl_base.proofs.table.system.rows.Goals as goal

pub returns : goal.returns
unfolding system_rows
returns c = refl

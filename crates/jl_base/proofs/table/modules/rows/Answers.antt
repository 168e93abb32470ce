use Rattle.std.proofs.Common.{refl}
use Rattle.jl_base.specs.Table.{modules_rows}
use Rattle.jl_base.proofs.table.modules.rows.Goals as goal

pub returns : goal.returns
unfolding modules_rows
returns c = refl

use Rattle.std.proofs.Common.{refl}
use Rattle.jl_base.specs.Table.{interfaces_rows}
use Rattle.jl_base.proofs.table.interfaces.rows.Goals as goal

pub returns : goal.returns
unfolding interfaces_rows
returns c = refl

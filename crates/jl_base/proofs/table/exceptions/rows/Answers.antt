use Rattle.std.proofs.Common.{refl}
use Rattle.jl_base.specs.Table.{exceptions_rows}
use Rattle.jl_base.proofs.table.exceptions.rows.Goals as goal

pub returns : goal.returns
unfolding exceptions_rows
returns c = refl

use Rattle.std.proofs.Common.{refl}
use Rattle.jl_base.specs.Table.{hidden_rows}
use Rattle.jl_base.proofs.table.hidden.rows.Goals as goal

pub returns : goal.returns
unfolding hidden_rows
returns c = refl

use Rattle.std.proofs.Common.{refl}
use Rattle.jl_base.specs.Table.{collections_rows}
use Rattle.jl_base.proofs.table.collections.rows.Goals as goal

pub returns : goal.returns
unfolding collections_rows
returns c = refl

use Rattle.std.proofs.Common.{◌∙◌}
use Rattle.jl_loads.proofs.Filling.{row_long, row_lent}
use Rattle.jl_loads.proofs.loads.Loads.pool_of.Goals as goal

pub returns-clause-pool : goal.returns-clause-pool
returns-clause-pool c =
    row_long c.args.self.now c.args.c c.as_slice.result.now c.stay_sound.ensures (c.as_slice.ensures ∙ row_lent _ _ c.args.c c.index.result.now c.self.view_is c.stay_sound.ensures c.requires c.index.ensures)

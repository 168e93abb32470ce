use Rattle.std.proofs.Common.{◌∙◌}
use Rattle.jl_modinfo.proofs.LimitLaws.{file_long}
use Rattle.jl_modinfo.proofs.limits.long_table.Goals as goal

pub returns : goal.returns
returns c = c.long_in.ensures ∙ file_long c.args.d.now

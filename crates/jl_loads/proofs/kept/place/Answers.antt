use Rattle.std.proofs.Common.{◌∙◌}
use Rattle.jl_loads.proofs.KeptFiles.{insert_is_kept, on_ok_of}
use Rattle.jl_loads.proofs.kept.place.Goals as goal

pub returns : goal.returns
returns c =
    on_ok_of c.insert.result (c.insert.ensures.succeeds c.requires.room) c.insert.ensures.entries ∙ insert_is_kept c.args.path c.args.what c.args.kept.now.entries c.requires.fresh

use Rattle.std.proofs.Common.{◌∙◌, sym}
use Rattle.jl_loads.specs.Worlds.{Lost}
use Rattle.jl_loads.proofs.KeptFiles.{placed_there, placed_read}
use Rattle.jl_loads.proofs.kept.keep_file.Goals as goal

pub returns-in-Ok-clause-there : goal.returns-in-Ok-clause-there
returns-in-Ok-clause-there g c =
    placed_there c.args.path.now c.in_ok-key.key c.in-Ok.what c.args.kept.now.entries c.reserve.new.self.entries c.place.new.kept.entries
    (sym c.contains_key.ensures ∙ c.if-contains_key.false) c.reserve.ensures.entries c.in_ok-key.ensures c.place.ensures

pub returns-in-Ok-clause-reads : goal.returns-in-Ok-clause-reads
returns-in-Ok-clause-reads g c =
    placed_read c.args.path.now c.in_ok-key.key c.in-Ok.what c.args.kept.now.entries c.reserve.new.self.entries c.place.new.kept.entries (g.T.Tree.asked c.args.tree.now) (g.T.Tree.asked c.read_file.new.tree)
    (sym c.contains_key.ensures ∙ c.if-contains_key.false) c.reserve.ensures.entries c.in_ok-key.ensures c.place.ensures c.in-Ok.ensures.tables c.read_file.ensures.asks

pub returns-in-Err-clause-reads : goal.returns-in-Err-clause-reads
returns-in-Err-clause-reads g c =
    placed_read c.args.path.now c.in_ok-key.key Lost c.args.kept.now.entries c.reserve.new.self.entries c.place-in-Err.new.kept.entries (g.T.Tree.asked c.args.tree.now) (g.T.Tree.asked c.read_file.new.tree)
    (sym c.contains_key.ensures ∙ c.if-contains_key.false) c.reserve.ensures.entries c.in_ok-key.ensures c.place-in-Err.ensures tt c.read_file.ensures.asks

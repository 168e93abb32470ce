use Rattle.jl_access.proofs.Same.{inserted}
use Rattle.jl_access.proofs.table.insert_reserved.Goals as goal

pub returns-clause-has : goal.returns-clause-has
returns-clause-has c = inserted c.args.set.now.keys c.insert.new.self.keys c.args.fact c.in-Ok.ensures.updates.0

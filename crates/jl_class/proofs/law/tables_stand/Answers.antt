use Rattle.jl_class.proofs.TableLaws.{tables_stand_lem}
use Rattle.jl_class.proofs.law.tables_stand.Goals as goal

pub returns : goal.returns
returns c = tables_stand_lem c.pool.ensures.declared.0 c.args.class.now c.pool.ensures.declared.1

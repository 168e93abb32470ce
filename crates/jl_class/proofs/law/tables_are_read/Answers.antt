use Rattle.jl_class.proofs.TableLaws.{tables_read_lem, nest_read_lem}
use Rattle.jl_class.proofs.law.tables_are_read.Goals as goal

pub returns-clause-tables : goal.returns-clause-tables
returns-clause-tables c = tables_read_lem

pub returns-clause-nest : goal.returns-clause-nest
returns-clause-nest c = nest_read_lem

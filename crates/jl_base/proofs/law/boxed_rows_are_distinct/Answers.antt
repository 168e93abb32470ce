use Rattle.jl_base.proofs.Laws.{boxed_is, boxed_distinct}
use Rattle.jl_base.proofs.law.boxed_rows_are_distinct.Goals as goal

pub returns-clause-rows : goal.returns-clause-rows
returns-clause-rows c = boxed_is

pub returns-clause-distinct : goal.returns-clause-distinct
returns-clause-distinct c = boxed_distinct

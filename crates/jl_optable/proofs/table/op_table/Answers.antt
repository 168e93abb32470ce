use Rattle.std.proofs.Common.{refl, List, sym, subst, map}
use Rattle.jl_logic.specs.Lists.{AreDistinct}
use Rattle.jl_optable.specs.declared.form.Form.{Form}
use Rattle.jl_optable.proofs.Order.{table_rises, table_distinct}
use Rattle.jl_optable.specs.Rows.{is_stub, operands_of, has_row, form_of, rows_from, table, Rise, opcode}
use Rattle.jl_optable.proofs.table.op_table.Goals as goal

pub invariant_of-result : goal.invariant_of-result
unfolding table rows_from form_of has_row is_stub operands_of
invariant_of-result c = (refl, refl)

pub returns-clause-rows : goal.returns-clause-rows
unfolding table rows_from form_of has_row is_stub operands_of
returns-clause-rows c = refl

pub returns-clause-order : goal.returns-clause-order
unfolding returns-clause-rows
returns-clause-order c = subst Rise (sym (returns-clause-rows c)) table_rises

pub returns-clause-once : goal.returns-clause-once
unfolding returns-clause-rows
returns-clause-once c = subst (λ (rows : List Form). AreDistinct (map opcode rows)) (sym (returns-clause-rows c)) table_distinct

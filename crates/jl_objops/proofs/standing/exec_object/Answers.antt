use Rattle.std.proofs.Common.{ℕ, sym, subst}
use Rattle.jl_objops.specs.Outcomes.{IsRow}
use Rattle.jl_objops.specs.Rows.{row}
use Rattle.jl_objops.proofs.Callers.{row_so}
use Rattle.jl_objops.proofs.standing.exec_object.Goals as goal

pub returns-clause-row : goal.returns-clause-row
returns-clause-row g c = λ files told.
    row_so (λ said. IsRow said c.args.store.now c.exec_row.result c.exec_row.new.world c.exec_row.new.store) files c.args.at c.args.world.now c.args.store.now c.args.code.now c.caller_on_top-caller.result c.pc.result c.in-Some.instr.now c.in-Some-row_of.row
    c.caller_on_top-caller.ensures.caller c.pc.ensures (sym c.in-Some.ensures) (sym c.in-Some-row_of.ensures) (subst (λ (n : ℕ). IsRow (row files c.args.at c.args.world.now c.args.store.now c.caller_on_top-caller.result c.in-Some-row_of.row n) c.args.store.now c.exec_row.result c.exec_row.new.world c.exec_row.new.store) c.next_place.ensures (c.exec_row.ensures.row files told))

-- The opcodes of the table rise, so none is there twice.
use Rattle.std.proofs.Common.{◌≡◌, ℕ, zero, suc, ◌+◌, ◌<◌, List, [], ◌∷◌, map, Contains, ⊎_elim, Bool, true, false, cond, arith}
use Rattle.std.specs.List.{AllByRecursion}
use Rattle.jl_logic.specs.Lists.{AreDistinct}
use Rattle.jl_logic.proofs.Rising.{contains_cases, contains_nothing}
use Rattle.jl_optable.specs.declared.form.Form.{Form}
use Rattle.jl_optable.specs.Rows.{has_row, row_of, rows_from, table, opcode, Rise}

with_row : (b : Bool) (k from : ℕ) (rows : List Form) → k < from → AllByRecursion (λ (r : Form). k < r.op) rows → AllByRecursion (λ (r : Form). k < r.op) (cond b (row_of from ∷ rows) rows)
with_row true k from rows lt h = (lt, h)
with_row false k from rows lt h = h

-- no row from an opcode on has a lower one
later : (n from k : ℕ) → k < from → AllByRecursion (λ (r : Form). k < r.op) (rows_from n from)
unfolding rows_from
later zero from k lt = tt
later (suc n) from k lt = with_row (has_row from) k from (rows_from n (from + 1)) lt (later n (from + 1) k (omega arith))

rising : (b : Bool) (from : ℕ) (rows : List Form) → AllByRecursion (λ (r : Form). from < r.op) rows → Rise rows → Rise (cond b (row_of from ∷ rows) rows)
rising true from rows h up = (h, up)
rising false from rows h up = up

rises_from : (n from : ℕ) → Rise (rows_from n from)
unfolding rows_from
rises_from zero from = tt
rises_from (suc n) from = rising (has_row from) from (rows_from n (from + 1)) (later n (from + 1) from (omega arith)) (rises_from n (from + 1))

pub table_rises : Rise table
unfolding table
table_rises = rises_from 256 0

absent : (k : ℕ) (rows : List Form) → AllByRecursion (λ (r : Form). k < r.op) rows → Contains (map opcode rows) k → ⊥
absent k [] h c = contains_nothing k c
absent k (r ∷ rows) h c = ⊎_elim (λ e. differs r.op k h.0 e) (λ d. absent k rows h.1 d) (contains_cases r.op k (map opcode rows) c)
  where
    differs : (o j : ℕ) → j < o → o ≡ j → ⊥
    differs o j lt e = omega arith

distinct : (rows : List Form) → Rise rows → AreDistinct (map opcode rows)
distinct [] up = tt
distinct (r ∷ rows) up = (absent r.op rows up.0, distinct rows up.1)

pub table_distinct : AreDistinct (map opcode table)
table_distinct = distinct table table_rises

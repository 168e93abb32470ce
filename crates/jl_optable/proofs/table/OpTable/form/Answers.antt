use Rattle.std.proofs.Common.{sym, ap, ◌∙◌, List}
use Rattle.std.specs.Prelude.{slice_get}
use Rattle.jl_optable.specs.declared.form.Form.{Form}
use Rattle.jl_optable.proofs.table.OpTable.form.Goals as goal

pub returns-in-Some : goal.returns-in-Some
returns-in-Some g c = c.row_at.ensures ∙ ap (λ (rows : List Form). slice_get rows c.in-Some.index) c.self.invariant.1 ∙ c.in-Some.ensures

pub returns-in-None : goal.returns-in-None
returns-in-None g c = sym c.in-None.ensures

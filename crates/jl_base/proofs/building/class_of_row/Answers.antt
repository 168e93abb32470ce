use Rattle.std.proofs.Common.{subst}
use Rattle.jl_logic.specs.Answers.{Fails}
use Rattle.jl_classw.specs.Faults.{told}
use Rattle.jl_base.specs.Made.{class_made}
use Rattle.jl_base.proofs.Makes.{no_fault}
use Rattle.jl_base.proofs.Shape.{made_class}
use Rattle.jl_base.specs.Rows.{row_of}
use Rattle.jl_base.proofs.building.class_of_row.Goals as goal

pub returns-in-Ok : goal.returns-in-Ok
returns-in-Ok c = made_class (row_of c.args.row.now) _ c.in-Ok.ensures

pub unreachable-requires : goal.unreachable-requires
unreachable-requires c = no_fault (row_of c.args.row.now) _ c.requires (subst (λ e. Fails told e (class_made (row_of c.args.row.now))) c.in-Err-TooMany.field-0-is c.in-Err-TooMany.ensures)

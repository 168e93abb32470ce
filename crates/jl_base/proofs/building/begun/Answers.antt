use Rattle.std.proofs.lemmas.Result.{err_from_is_err_and}
use Rattle.jl_base.proofs.Conditions.{ready_by}
use Rattle.jl_base.proofs.Makes.{begun_is}
use Rattle.jl_base.specs.Rows.{row_of}
use Rattle.jl_base.proofs.building.begun.Goals as goal

pub name_interfaces-requires : goal.name_interfaces-requires
name_interfaces-requires c = (ready_by (row_of c.args.row.now) c.requires).interfaces

pub returns-in_err-name_interfaces : goal.returns-in_err-name_interfaces
returns-in_err-name_interfaces c =
    let p = err_from_is_err_and c.from_residual-in_err-name_interfaces.result c.from_residual-in_err-name_interfaces.ensures.1 in
    rw (p.1, p.2, begun_is (row_of c.args.row.now) c.in_ok-builder.builder c.in_ok-builder.ensures) c.in_err-name_interfaces.ensures

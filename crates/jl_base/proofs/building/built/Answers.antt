use Rattle.std.proofs.lemmas.Result.{err_from_is_err_and}
use Rattle.jl_base.proofs.Makes.{fails_on, filled_at, made_is}
use Rattle.jl_base.specs.Rows.{row_of}
use Rattle.jl_base.proofs.building.built.Goals as goal

pub add_members-requires : goal.add_members-requires
add_members-requires c = filled_at (row_of c.args.row.now) c.in_ok-builder.builder c.in_ok-builder.ensures c.requires

pub returns-in_err-add_members : goal.returns-in_err-add_members
returns-in_err-add_members c =
    let p = err_from_is_err_and c.from_residual-in_err-add_members.result c.from_residual-in_err-add_members.ensures.1 in
    rw (p.1, p.2, made_is (row_of c.args.row.now) c.in_ok-builder.builder c.in_ok-builder.ensures) (fails_on c.in_err-add_members.field-0.0 _ _ c.in_err-add_members.ensures)

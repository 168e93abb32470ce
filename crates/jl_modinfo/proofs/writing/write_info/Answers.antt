use Rattle.std.proofs.Common.{sym, Some}
use Rattle.jl_modinfo.specs.Writing.{too_many}
use Rattle.jl_modinfo.proofs.NeedLaws.{refused_table, refused_as}
use Rattle.jl_modinfo.proofs.FileWritten.{refused_never}
use Rattle.jl_modinfo.proofs.writing.write_info.Goals as goal

pub returns-in-Some : goal.returns-in-Some
returns-in-Some c = record {
  refused = refused_as c.too_long.result (Some c.in-Some.table.now) (too_many c.args.d.now) (sym (refused_table c.args.d.now c.in-Some.table.now (sym c.in-Some.ensures))) c.too_long.ensures;
  back = refused_never _ c.too_long.result c.in-Some.table.now c.too_long.ensures;
}

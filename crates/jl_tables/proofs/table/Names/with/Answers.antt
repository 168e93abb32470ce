use Rattle.std.proofs.Common.{◌∙◌, ap, nat_eq}
use Rattle.std.specs.Cmp.Lexicographic.{pointwise}
use Rattle.indexmap.specs.IndexSet.{insert_key}
use Rattle.jl_tables.proofs.NameLaws.{inserted}
use Rattle.jl_tables.proofs.table.Names.with.Goals as goal

pub returns : goal.returns
returns c = c.in_ok-insert.ensures.keys ∙ ap (λ names. insert_key (pointwise nat_eq) names c.args.name) c.self.view_is ∙ inserted c.args.self c.args.name c.requires

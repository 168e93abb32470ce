use Rattle.std.proofs.Common.{◌∙◌, ap}
use Rattle.indexmap.specs.IndexSet.{insert_key}
use Rattle.jl_class.specs.Meaning.{is_same_member}
use Rattle.jl_class.proofs.MemberLaws.{inserted}
use Rattle.jl_class.proofs.table.Keys.with.Goals as goal

pub returns : goal.returns
returns c = c.in_ok-insert.ensures.keys ∙ ap (λ keys. insert_key is_same_member keys c.args.key) c.self.view_is ∙ inserted c.args.self c.args.key c.requires

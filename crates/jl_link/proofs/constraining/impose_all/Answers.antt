use Rattle.jl_link.proofs.Cuts.{params_cut, returned_cut, field_cut}
use Rattle.jl_link.proofs.constraining.impose_all.Goals as goal

pub impose_type-requires-clause-cut : goal.impose_type-requires-clause-cut
impose_type-requires-clause-cut c = field_cut c.args.desc.now c.in-Field.kind c.utf8.desc (rw c.in-Field.is at c.requires.found)

pub impose_types-requires-clause-cut : goal.impose_types-requires-clause-cut
impose_types-requires-clause-cut c = rw c.as_slice.ensures (params_cut c.args.desc.now c.in-Method.params c.in-Method.result c.utf8.desc (rw c.in-Method.is at c.requires.found))

pub impose_result-requires-clause-cut : goal.impose_result-requires-clause-cut
impose_result-requires-clause-cut c = returned_cut c.args.desc.now c.in-Method.params c.in-Method.result c.utf8.desc (rw c.in-Method.is at c.requires.found)

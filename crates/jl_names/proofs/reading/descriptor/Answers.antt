use Rattle.jl_names.proofs.DescriptorLaws.{is_found, is_only}
use Rattle.jl_names.proofs.MethodBad.{bad_place}
use Rattle.jl_names.proofs.reading.descriptor.Goals as goal

pub returns-clause-found : goal.returns-clause-found
returns-clause-found c = is_found c.args.text.now c.whole.result c.whole.ensures

pub returns-clause-only : goal.returns-clause-only
returns-clause-only c = is_only c.args.text.now c.whole.result c.whole.ensures

pub returns-clause-bad : goal.returns-clause-bad
returns-clause-bad c = bad_place c.args.text.now c.whole.result c.whole.ensures

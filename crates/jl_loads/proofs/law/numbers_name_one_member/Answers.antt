use Rattle.jl_loads.proofs.Numbering.{numbers_lem}
use Rattle.jl_loads.proofs.law.numbers_name_one_member.Goals as goal

pub returns : goal.returns
returns c = numbers_lem

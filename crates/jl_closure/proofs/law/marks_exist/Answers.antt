use Rattle.jl_closure.proofs.Always.{marks_exist as always}
use Rattle.jl_closure.proofs.law.marks_exist.Goals as goal

pub returns : goal.returns
returns c = always

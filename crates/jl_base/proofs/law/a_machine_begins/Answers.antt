use Rattle.jl_base.proofs.Laws.{begin}
use Rattle.jl_base.proofs.law.a_machine_begins.Goals as goal

pub returns : goal.returns
returns c = begin

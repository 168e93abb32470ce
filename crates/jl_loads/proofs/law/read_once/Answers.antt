use Rattle.jl_loads.proofs.Remembered.{read_once_lem}
use Rattle.jl_loads.proofs.law.read_once.Goals as goal

pub returns : goal.returns
returns c = read_once_lem

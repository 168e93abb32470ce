use Rattle.jl_loads.proofs.Found.{files_stay_lem}
use Rattle.jl_loads.proofs.law.files_stay.Goals as goal

pub returns : goal.returns
returns c = files_stay_lem

use Rattle.jl_loads.proofs.Soundness.{sound_stays_lem}
use Rattle.jl_loads.proofs.law.sound_stays.Goals as goal

pub returns : goal.returns
returns c = sound_stays_lem

use Rattle.jl_loaders.proofs.Leads.{lead_stays}
use Rattle.jl_loaders.proofs.Sound.{violated_stays, grows_onward}
use Rattle.jl_loaders.proofs.law.leads_stay.Goals as goal

pub returns : goal.returns
returns c = record { leads = lead_stays; constraints = violated_stays; onward = grows_onward }

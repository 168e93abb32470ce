use Rattle.jl_verify.proofs.rules.leads.Goals as goal

pub returns-in-Switch : goal.returns-in-Switch
returns-in-Switch g c = rw c.in-Switch.is (rw (← c.as_slice.ensures) c.switch_leads.ensures)

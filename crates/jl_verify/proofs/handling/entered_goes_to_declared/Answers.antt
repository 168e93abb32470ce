use Rattle.jl_verify.proofs.handling.entered_goes_to_declared.Goals as goal

pub returns-in-Some : goal.returns-in-Some
returns-in-Some g c = rw (← c.in-Some.ensures) c.entered_goes.ensures

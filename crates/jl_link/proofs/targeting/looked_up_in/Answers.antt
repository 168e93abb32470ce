use Rattle.std.proofs.Common.{◌∙◌, ap}
use Rattle.jl_loads.specs.Worlds.{defined}
use Rattle.jl_link.proofs.targeting.looked_up_in.Goals as goal

pub returns-in_ok-name-in-Array : goal.returns-in_ok-name-in-Array
returns-in_ok-name-in-Array c = rw c.in-Array.is (c.defined.ensures.class ∙ ap (λ n. defined c.args.loads.now (record { 0 = 1 }) n) c.in_ok-name-in-Array.ensures)

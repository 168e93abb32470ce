use Rattle.jl_loads.proofs.Waiting.{made_waits}
use Rattle.jl_loads.proofs.loading.wait_for.Goals as goal

pub returns-clause-waits : goal.returns-clause-waits
returns-clause-waits c = made_waits c.args.waiting.now.items c.push.new.self.items c.args.key.now c.in_ok-copy.field-0 c.in_ok-push.ensures.items c.in_ok-copy.ensures

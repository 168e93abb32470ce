use Rattle.std.proofs.Common.{arith}
use Rattle.jl_access.proofs.Modules.{numbered_told}
use Rattle.jl_access.proofs.facts.numbered.Goals as goal

pub returns : goal.returns
returns c = numbered_told c.args.modules.now c.args.m.0 c.module_at.result (omega arith) c.module_at.ensures

use Rattle.std.proofs.Common.{arith}
use Rattle.jl_names.proofs.TextClauses.{all_fit, written_back}
use Rattle.jl_names.proofs.text.bytes_of.Goals as goal

pub returns-clause-back : goal.returns-clause-back
returns-clause-back c = written_back c.loop-rest.bytes.items c.loop-rest.rest.now c.args.units.now c.in_default.len_below c.loop-rest.invariant (all_fit c.args.units.now (λ i. omega (arith, c.type_inv.units i)))

use Rattle.std.proofs.Common.{arith}
use Rattle.jl_classw.proofs.UnitLaws.{all_units}
use Rattle.jl_classw.proofs.constants.are_units.Goals as goal

pub returns : goal.returns
returns c = all_units c.args.units.now (λ i. omega (arith, c.type_inv.units i))

use Rattle.std.proofs.Common.{arith}
use Rattle.jl_names.proofs.TextClauses.{is_found, is_only}
use Rattle.jl_names.proofs.TextBad.{bad_place}
use Rattle.jl_names.proofs.text.units_of.Goals as goal

pub returns-clause-found : goal.returns-clause-found
returns-clause-found c = is_found c.args.bytes.now c.all_units.result (λ i. omega (arith, c.type_inv.bytes i)) c.all_units.ensures

pub returns-clause-only : goal.returns-clause-only
returns-clause-only c = λ units are spelled. is_only c.args.bytes.now units c.all_units.result are spelled c.all_units.ensures

pub returns-clause-bad : goal.returns-clause-bad
returns-clause-bad c = bad_place c.args.bytes.now c.all_units.result (λ i. omega (arith, c.type_inv.bytes i)) c.all_units.ensures

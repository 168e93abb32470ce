use Rattle.std.proofs.Common.{ap, Ok}
use Rattle.jl_natives.specs.declared.plain.Plain.TheVariants.{Int}
use Rattle.jl_natives.proofs.Wrapping.{abs_is}
use Rattle.jl_natives.proofs.numbers.abs.Goals as goal

pub returns : goal.returns
returns c = ap (λ n. Ok (Int n)) (abs_is c.args.n c.wrapping_abs.result c.ranges.n c.wrapping_abs.ensures)

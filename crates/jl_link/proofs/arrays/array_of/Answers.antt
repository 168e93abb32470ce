use Rattle.std.proofs.Common.{Some, refl}
use Rattle.jl_link.proofs.Reaching.{array_end}
use Rattle.jl_link.proofs.arrays.array_of.Goals as goal

pub returns-in-Err-clause-finds : goal.returns-in-Err-clause-finds
returns-in-Err-clause-finds g c = λ files from told there.
    array_end files c.args.at c.args.loads.now from c.args.text.now c.args.name.now (Some c.args.name.now) c.in-Err.end c.class_by_name.new.loads refl (c.in-Err.ensures.finds files from told there)

use Rattle.std.proofs.Common.{◌≡◌, ◌∙◌, ◌++◌, drop, ap}
use Rattle.jl_heap.proofs.Giving.{sliced}
use Rattle.jl_heap.proofs.frame.copy_last.Goals as goal

pub returns-clause-copied : goal.returns-clause-copied
returns-clause-copied c = ap (λ l. l ++ drop c.args.count c.args.to.now) (c.copy_from_slice.ensures.after ∙ sliced c.args.count c.args.from.now c.requires.there)

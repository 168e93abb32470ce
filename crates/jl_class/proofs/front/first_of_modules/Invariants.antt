use Rattle.std.proofs.Common.{◌≡◌, ◌<◌, ℕ, false}
use Rattle.jl_class.specs.Meaning.{has_of_modules}
use Rattle.jl_class.proofs.front.first_of_modules.Given as goal

abbrev pub invariant-loop-index : goal.invariant-loop-index
invariant-loop-index l = (k : ℕ) → k < l.index → has_of_modules l.pool k ≡ false

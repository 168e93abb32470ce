use Rattle.std.proofs.Common.{◌≡◌, ◌<◌, ◌^◌, length, IsTrue}
use Rattle.std.specs.List.{list_all}
use Rattle.jl_words.specs.Values as values
use Rattle.jl_words.proofs.texts.spelled.Given as goal

abbrev pub invariant-loop-rest : goal.invariant-loop-rest
invariant-loop-rest l = (values.spelled l.number l.rest ≡ values.spelled 0 l.text) × (l.number < 2 ^ 64) × IsTrue (list_all values.is_digit l.rest)

abbrev pub decreases-loop-rest : goal.decreases-loop-rest
decreases-loop-rest l = length l.rest

use Rattle.std.proofs.Common.{◌≡◌, ◌++◌, length}
use Rattle.jl_names.specs.Text.{text_bytes}
use Rattle.jl_names.proofs.text.bytes_of.Given as goal

abbrev pub invariant-loop-rest : goal.invariant-loop-rest
invariant-loop-rest l = l.bytes.items ++ text_bytes l.rest ≡ text_bytes l.units

abbrev pub decreases-loop-rest : goal.decreases-loop-rest
decreases-loop-rest l = length l.rest

use Rattle.std.proofs.Common.{◌≡◌, length}
use Rattle.jl_names.specs.Names as names
use Rattle.jl_names.proofs.NameLaws.{goes_on}
use Rattle.jl_names.proofs.name.is_class_name.Given as goal

abbrev pub invariant-loop-rest : goal.invariant-loop-rest
invariant-loop-rest l = goes_on l.is_begun l.rest ≡ names.names_a_class l.text

abbrev pub decreases-loop-rest : goal.decreases-loop-rest
decreases-loop-rest l = length l.rest

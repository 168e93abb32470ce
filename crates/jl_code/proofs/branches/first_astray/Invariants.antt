use Rattle.std.proofs.Common.{◌≡◌, length, not}
use Rattle.jl_code.specs.Places.{is_marked}
use Rattle.jl_code.specs.Decoding.{first_where, leads_right}
use Rattle.jl_code.proofs.branches.first_astray.Given as goal

abbrev pub invariant-loop-rest : goal.invariant-loop-rest
invariant-loop-rest l = first_where (λ i. not (leads_right (is_marked l.marks) i.arg)) l.rest ≡ first_where (λ i. not (leads_right (is_marked l.marks) i.arg)) l.all

abbrev pub decreases-loop-rest : goal.decreases-loop-rest
decreases-loop-rest l = length l.rest

use Rattle.std.proofs.Common.{◌≡◌, length}
use Rattle.jl_code.specs.Stubs.{makes_stub}
use Rattle.jl_code.specs.Decoding.{first_where}
use Rattle.jl_code.proofs.stubs.first_stub.Given as goal

abbrev pub invariant-loop-rest : goal.invariant-loop-rest
invariant-loop-rest l = first_where (makes_stub l.pool) l.rest ≡ first_where (makes_stub l.pool) l.all

abbrev pub decreases-loop-rest : goal.decreases-loop-rest
decreases-loop-rest l = length l.rest

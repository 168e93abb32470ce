use Rattle.std.proofs.Common.{◌≡◌, replicate}
use Rattle.std.specs.String.{string_bytes}
use Rattle.jl_verify.proofs.types.brackets.Given as goal

abbrev pub invariant-loop : goal.invariant-loop
invariant-loop l = string_bytes l.text ≡ replicate l.counter 91

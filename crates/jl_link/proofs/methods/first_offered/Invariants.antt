use Rattle.std.proofs.Common.{◌≡◌, drop}
use Rattle.jl_link.specs.Members.{first_given, offered, wanted}
use Rattle.jl_link.proofs.methods.first_offered.Given as goal

abbrev pub invariant-loop-i : goal.invariant-loop-i
invariant-loop-i l = first_given (offered l.loads (wanted l.name l.desc)) (drop l.i-index l.interfaces) ≡ first_given (offered l.loads (wanted l.name l.desc)) l.interfaces

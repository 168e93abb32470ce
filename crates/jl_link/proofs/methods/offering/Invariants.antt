use Rattle.std.proofs.Common.{◌≡◌, filter, take}
use Rattle.std.specs.Prelude.{is_some}
use Rattle.jl_link.specs.Members.{offered, wanted}
use Rattle.jl_link.proofs.methods.offering.Given as goal

abbrev pub invariant-loop-i : goal.invariant-loop-i
invariant-loop-i l = l.found.items ≡ filter (λ i. is_some (offered l.loads (wanted l.name l.desc) i)) (take l.i-index l.interfaces)

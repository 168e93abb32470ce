use Rattle.std.proofs.Common.{◌≡◌, filter, not, take}
use Rattle.jl_link.specs.Members.{is_refined}
use Rattle.jl_link.proofs.methods.most_specific.Given as goal

abbrev pub invariant-loop-i : goal.invariant-loop-i
invariant-loop-i l = l.found.items ≡ filter (λ i. not (is_refined l.loads l.interfaces i)) (take l.i-index l.interfaces)

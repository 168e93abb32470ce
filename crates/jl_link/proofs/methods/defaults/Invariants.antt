use Rattle.std.proofs.Common.{◌≡◌, filter, take}
use Rattle.jl_link.specs.Members.{is_default, wanted}
use Rattle.jl_link.proofs.methods.defaults.Given as goal

abbrev pub invariant-loop-i : goal.invariant-loop-i
invariant-loop-i l = l.found.items ≡ filter (is_default l.loads (wanted l.name l.desc)) (take l.i-index l.i-items)

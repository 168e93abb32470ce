use Rattle.std.proofs.Common.{◌≡◌}
use Rattle.jl_loads.specs.Worlds.{line_by, line_of}
use Rattle.jl_link.specs.Members.{first_given, own_method, wanted}
use Rattle.jl_link.proofs.methods.line_method.Given as goal

abbrev pub invariant-loop-at : goal.invariant-loop-at
invariant-loop-at l = first_given (own_method l.loads (wanted l.name l.desc)) (line_by l.most l.loads l.at) ≡ first_given (own_method l.loads (wanted l.name l.desc)) (line_of l.loads l.fn.c)

abbrev pub decreases-loop-at : goal.decreases-loop-at
decreases-loop-at l = l.most

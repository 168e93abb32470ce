use Rattle.std.proofs.Common.{◌≡◌, drop}
use Rattle.jl_loads.specs.Ranks.{with_more}
use Rattle.jl_loads.proofs.above.add_all.Given as goal

abbrev pub invariant-loop-c : goal.invariant-loop-c
invariant-loop-c l = with_more l.list.items (drop l.c-index l.more) ≡ with_more l.initial.list.items l.more

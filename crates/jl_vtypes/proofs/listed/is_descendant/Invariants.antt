use Rattle.std.proofs.Common.{◌≡◌, ◌-◌, length}
use Rattle.jl_vtypes.specs.Listed.{descends}
use Rattle.jl_vtypes.proofs.listed.is_descendant.Given as goal

abbrev pub invariant-loop : goal.invariant-loop
invariant-loop l = descends (l.end - l.counter) l.classes l.to l.from ≡ descends (length l.classes) l.classes l.to l.fn.from

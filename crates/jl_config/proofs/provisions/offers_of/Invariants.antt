use Rattle.std.proofs.Common.{◌≡◌, ◌++◌, drop}
use Rattle.jl_config.specs.MemberRows.{provisions_from}
use Rattle.jl_config.proofs.provisions.offers_of.Given as goal

abbrev pub invariant-loop-at : goal.invariant-loop-at
invariant-loop-at l = l.all.items ++ provisions_from l.scene l.at (drop l.at l.scene.candidates) ≡ provisions_from l.scene 0 l.scene.candidates

use Rattle.std.proofs.Common.{◌≡◌, ◌++◌, drop}
use Rattle.jl_config.specs.MemberRows.{cleared}
use Rattle.jl_config.proofs.members.cleared_of.Given as goal

abbrev pub invariant-loop-at : goal.invariant-loop-at
invariant-loop-at l = l.kept.items ++ cleared l.scene (drop l.at l.scene.candidates) (drop l.at l.marks) ≡ cleared l.scene l.scene.candidates l.marks

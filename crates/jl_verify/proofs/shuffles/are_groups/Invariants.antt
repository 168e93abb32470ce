use Rattle.std.proofs.Common.{◌≡◌, ◌≤◌, ◌*◌, drop}
use Rattle.jl_verify.specs.Moves.{are_groups}
use Rattle.jl_verify.proofs.shuffles.are_groups.Given as goal

abbrev pub invariant-loop-group : goal.invariant-loop-group
invariant-loop-group l = record { same : are_groups (drop l.group-index l.groups) (drop l.depth l.f.stack) ≡ are_groups l.groups l.f.stack; few : l.depth ≤ 2 * l.group-index }

use Rattle.std.proofs.Common.{length, ◌≡◌, ℕ, List, not, nat_eq}
use Rattle.std.specs.Prelude.{find}
use Rattle.std.specs.List.{list_any}
use Rattle.std.specs.Cmp.Lexicographic.{pointwise}
use Rattle.jl_modinfo.proofs.rules.first_outside.Given as goal

-- none of the names that were passed is outside
abbrev pub invariant-loop-rest : goal.invariant-loop-rest
invariant-loop-rest l = find (λ (name : List ℕ). not (list_any (pointwise nat_eq name) l.all.keys)) l.rest ≡ find (λ (name : List ℕ). not (list_any (pointwise nat_eq name) l.all.keys)) l.names

abbrev pub decreases-loop-rest : goal.decreases-loop-rest
decreases-loop-rest l = length l.rest

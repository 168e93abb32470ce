use Rattle.std.proofs.Common.{length, ◌≡◌, ℕ, List, ◌||◌, nat_eq}
use Rattle.std.specs.List.{list_any}
use Rattle.std.specs.Cmp.Lexicographic.{pointwise}
use Rattle.jl_tables.specs.Meaning.{is_among}
use Rattle.jl_modinfo.proofs.rules.set_of.Given as goal

-- what is put in and what is left to put in are the names
abbrev pub invariant-loop-rest : goal.invariant-loop-rest
invariant-loop-rest l = (name : List ℕ) → (list_any (pointwise nat_eq name) l.all.keys || is_among name l.rest) ≡ is_among name l.names

abbrev pub decreases-loop-rest : goal.decreases-loop-rest
decreases-loop-rest l = length l.rest

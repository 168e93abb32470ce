use Rattle.std.proofs.Common.{◌≡◌, ℕ, List, take}
use Rattle.jl_config.specs.Lineages.{is_named}
use Rattle.jl_config.specs.Tables.{listed, places_where}
use Rattle.jl_config.proofs.scene.places_by_name.Given as goal

abbrev pub invariant-loop-at : goal.invariant-loop-at
invariant-loop-at l = (name : List ℕ) → listed l.table name ≡ places_where (is_named name) 0 (take l.at l.candidates)

use Rattle.std.proofs.Common.{◌≡◌, ℕ, List, take}
use Rattle.jl_config.specs.Lineages.{is_reader}
use Rattle.jl_config.specs.Tables.{listed, places_where}
use Rattle.jl_config.proofs.scene.places_by_reader.Given as goal

abbrev pub invariant-loop-at : goal.invariant-loop-at
invariant-loop-at l = (name : List ℕ) → listed l.table name ≡ places_where (is_reader name) 0 (take l.at l.reads)

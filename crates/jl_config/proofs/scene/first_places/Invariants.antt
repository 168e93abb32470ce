use Rattle.std.proofs.Common.{◌≡◌, ℕ, List, take, nat_eq}
use Rattle.std.specs.Cmp.Lexicographic.{pointwise}
use Rattle.indexmap.specs.IndexMap.{get}
use Rattle.jl_config.specs.Places.{place_named}
use Rattle.jl_config.proofs.scene.first_places.Given as goal

abbrev pub invariant-loop-at : goal.invariant-loop-at
invariant-loop-at l = (name : List ℕ) → get (pointwise nat_eq) l.places name ≡ place_named name (take l.at l.candidates)

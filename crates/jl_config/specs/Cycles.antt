-- Places that lead back to themselves (`Configuration.resolve`): the words of the code that looks for cycles. No public clause cites these.
use Rattle.std.specs.Prelude.{◌≡◌, ℕ, List, [], ◌∷◌, map, Option, None, Some, Bool, slice_index_or, ◌⊎◌, ⊤}
use Rattle.std.specs.List.{filter_map}
use Rattle.jl_prim.specs.declared.declaration.Requires.{Requires}
use Rattle.jl_closure.specs.Reached.{IsReached}
use Rattle.jl_config.specs.declared.candidate.Candidate.{Candidate}
use Rattle.jl_config.specs.Located.{Scene}
use Rattle.jl_config.specs.Places.{member_place}

-- the place of the member that an entry means
abbrev pub edge_place : Scene → List Bool → Requires → Option ℕ
edge_place w marks r = member_place w marks r.name

-- the places of the members that the entries of a module mean
abbrev pub edge_row : Scene → List Bool → Candidate → List ℕ
edge_row w marks s = filter_map (edge_place w marks) s.observed.declaration.required

-- for each place those of the members that its entries mean
abbrev pub edge_rows : Scene → List Bool → List (List ℕ)
edge_rows w marks = map (edge_row w marks) w.candidates

-- the row of a place leads back to it
abbrev pub LeadsBack : List (List ℕ) → ℕ → Type 0
LeadsBack rows p = IsReached rows (slice_index_or rows p []) p

-- the first of a list that leads back to itself
abbrev pub IsFirstOnCycle : List (List ℕ) → List ℕ → Option ℕ → Type 0
IsFirstOnCycle rows [] None = ⊤
IsFirstOnCycle rows [] (Some q) = ⊥
IsFirstOnCycle rows (p ∷ ps) found = (LeadsBack rows p × (found ≡ Some p)) ⊎ ((LeadsBack rows p → ⊥) × IsFirstOnCycle rows ps found)

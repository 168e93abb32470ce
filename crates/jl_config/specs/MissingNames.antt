-- Names that are not located, and the least of them (`Configuration.resolve`): the words of the code that looks for one. No public clause cites these.
use Rattle.std.specs.Prelude.{ℕ, List, [], ◌∷◌, ◌++◌, Option, None, Some, ◌||◌, not, slice_get, if◌then◌else◌}
use Rattle.std.specs.List.{filter_map, flat_map}
use Rattle.std.specs.Option.{is_some, option_map_or}
use Rattle.std.specs.Ordering.{is_lt, ordering_then}
use Rattle.std.specs.declared.cmp.Ordering.{Ordering}
use Rattle.jl_prim.specs.declared.declaration.Requires.{Requires}
use Rattle.jl_logic.specs.Order.{name_cmp, optional_cmp}
use Rattle.jl_config.specs.declared.missing.Missing.{Missing}
use Rattle.jl_config.specs.declared.candidate.Candidate.{Candidate}
use Rattle.jl_config.specs.Located.{Scene, candidate_name}
use Rattle.jl_config.specs.Members.{is_followed}
use Rattle.jl_config.specs.Places.{place_named}

-- a missing name, and who requires it
abbrev pub lack_of : Missing → List ℕ × Option (List ℕ)
lack_of m = (m.name, m.by)

-- by the name, and then by who needs it
abbrev pub lack_cmp : List ℕ × Option (List ℕ) → List ℕ × Option (List ℕ) → Ordering
lack_cmp a b = ordering_then (name_cmp a.0 b.0) (optional_cmp a.1 b.1)

-- the lesser of two, where there is one
abbrev pub lesser : Option (List ℕ × Option (List ℕ)) → Option (List ℕ × Option (List ℕ)) → Option (List ℕ × Option (List ℕ))
lesser least None = least
lesser None (Some other) = Some other
lesser (Some least) (Some other) = if is_lt (lack_cmp other least) then Some other else Some least

-- the least of the one so far and of those of a list
abbrev pub least_from : Option (List ℕ × Option (List ℕ)) → List (List ℕ × Option (List ℕ)) → Option (List ℕ × Option (List ℕ))
least_from least [] = least
least_from least (m ∷ ms) = least_from (lesser least (Some m)) ms

-- a root that is not located
abbrev pub root_missing : Scene → List ℕ → Option (List ℕ × Option (List ℕ))
root_missing w name = if is_some (place_named name w.candidates) then None else Some (name, None)

-- what an entry that is followed needs and is not located
abbrev pub entry_missing : Scene → List ℕ → Requires → Option (List ℕ × Option (List ℕ))
entry_missing w by r = if not (is_followed r) || is_some (place_named r.name w.candidates) then None else Some (r.name, Some by)

-- what entries of a module follow and is not located
abbrev pub missing_entries : Scene → List ℕ → List Requires → List (List ℕ × Option (List ℕ))
missing_entries w by rs = filter_map (entry_missing w by) rs

-- what a module needs and is not located
abbrev pub missing_of : Scene → Candidate → List (List ℕ × Option (List ℕ))
missing_of w s = missing_entries w (candidate_name s) s.observed.declaration.required

-- the same of the module at a place
abbrev pub missing_at : Scene → ℕ → List (List ℕ × Option (List ℕ))
missing_at w p = option_map_or (missing_of w) (slice_get w.candidates p) []

-- all that is missing, where the set has the modules at ps
abbrev pub all_missing : Scene → List ℕ → List (List ℕ × Option (List ℕ))
all_missing w ps = filter_map (root_missing w) w.roots ++ flat_map (missing_at w) ps

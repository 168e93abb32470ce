-- The marks and the work of a closure, and what marking places does to them. No public clause cites these.
use Rattle.std.specs.Prelude.{ℕ, List, [], ◌∷◌, ◌++◌, Bool, true, false, slice_index_or, slice_set, if◌then◌else◌}

-- the marks, and the places whose followers are still to be marked
abbrev pub State : Type 0
State = List Bool × List ℕ

-- a place that is not marked is marked and becomes work
abbrev pub with_place : State → ℕ → State
with_place s p = if slice_index_or s.0 p false then s else (slice_set s.0 p true, s.1 ++ p ∷ [])

-- places are marked one after the other
abbrev pub with_places : State → List ℕ → State
with_places s [] = s
with_places s (p ∷ ps) = with_places (with_place s p) ps

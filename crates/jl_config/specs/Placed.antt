-- Marked places in name order (`Configuration.resolve`): the words of the code that puts them so. No public clause cites these.
use Rattle.std.specs.Prelude.{◌≡◌, ℕ, ◌+◌, ◌≤◌, List, [], ◌∷◌, length, Option, None, Some, Result, Ok, Err, Bool, ◌&&◌, if◌then◌else◌}
use Rattle.std.specs.List.Sorted.{IsPartitionPoint}
use Rattle.std.specs.declared.cmp.Ordering.TheVariants.{Less, Greater}
use Rattle.std.specs.declared.cmp.Ordering.{Ordering}
use Rattle.jl_logic.specs.Order.{is_text, name_cmp}
use Rattle.jl_config.specs.declared.candidate.Candidate.{Candidate}
use Rattle.jl_config.specs.declared.placed.Placed.{Placed}
use Rattle.jl_config.specs.Located.{candidate_name}

-- by the names
abbrev pub placed_cmp : Placed → Placed → Ordering
placed_cmp a b = name_cmp a.name b.name

-- the place of a name
abbrev pub place_in : List ℕ → List Placed → Option ℕ
place_in name [] = None
place_in name (x ∷ xs) = if is_text x.name name then Some x.place else place_in name xs

-- what a search for a name answers: that it is there, or where it would stand
abbrev pub IsSought : List ℕ → List Placed → Result ℕ ℕ → Type 0
IsSought name xs (Ok p) = (place : ℕ) × (place_in name xs ≡ Some place)
IsSought name xs (Err p) = (p ≤ length xs) × IsPartitionPoint (λ x. name_cmp x.name name ≡ Less) (λ x. name_cmp x.name name ≡ Greater) xs p

-- the first marked place of a name, where the list begins at place p
abbrev pub marked_place : List ℕ → ℕ → List Candidate → List Bool → Option ℕ
marked_place name p [] marks = None
marked_place name p (s ∷ ss) [] = None
marked_place name p (s ∷ ss) (mark ∷ marks) = if mark && is_text (candidate_name s) name then Some p else marked_place name (p + 1) ss marks

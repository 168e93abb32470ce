-- The index of the instruction that stands at a place of the code (JVMS 4.9.1).
use Rattle.std.specs.Prelude.{◌≡◌, ℕ, List, Option, None, Some, slice_get}

-- the instruction with this index begins at the place, or none does
abbrev pub IsIndexOf : List ℕ → ℕ → Option ℕ → Type 0
IsIndexOf starts pc None = (i : ℕ) → slice_get starts i ≡ Some pc → ⊥
IsIndexOf starts pc (Some i) = slice_get starts i ≡ Some pc

-- an option in an option as one
abbrev pub joined : Option (Option ℕ) → Option ℕ
joined None = None
joined (Some found) = found

-- what a table has for a place, and nothing past its end
abbrev pub index_in : List (Option ℕ) → ℕ → Option ℕ
index_in table pc = joined (slice_get table pc)

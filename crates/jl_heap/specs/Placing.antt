-- How the statics of a class (JVMS 2.5.4) are found: its place among those that were entered, by its number.
use Rattle.std.specs.Prelude.{◌≡◌, ℕ, suc, List, [], ◌∷◌, Option, None, Some, ◌==◌, if◌then◌else◌, slice_index_or, option_map}
use Rattle.jl_prim.specs.declared.numbers.ClassId.{ClassId}
use Rattle.jl_heap.specs.declared.statics.StaticEntry.{StaticEntry}

-- the place that is kept at a number, if there is one
abbrev pub kept_at : List (Option ℕ) → ℕ → Option ℕ
kept_at places n = slice_index_or places n None

-- the place of a class among those that were entered
abbrev pub place_of : List (ClassId × StaticEntry) → ℕ → Option ℕ
place_of [] n = None
place_of (p ∷ ps) n = if p.0.0 == n then Some 0 else option_map suc (place_of ps n)

-- at each number the place of the class with this number is kept
abbrev pub KeepsPlaces : List (Option ℕ) → List (ClassId × StaticEntry) → Type 0
KeepsPlaces places entries = (n : ℕ) → kept_at places n ≡ place_of entries n

-- Tables of places (`Configuration.resolve`): the words of the code that makes them. No public clause cites these.
use Rattle.std.specs.Prelude.{ℕ, ◌+◌, List, [], ◌∷◌, Option, None, Some, Bool, false, slice_get, unwrap_or, nat_eq, if◌then◌else◌}
use Rattle.std.specs.Option.{option_map, option_map_or}
use Rattle.std.specs.Cmp.Lexicographic.{pointwise}
use Rattle.indexmap.specs.IndexMap.{IndexMap, get}
use Rattle.jl_logic.specs.Order.{is_text}

-- the place of the first item that passes a test
abbrev pub first_where : {X : Type 0} → (X → Bool) → List X → Option ℕ
first_where test [] = None
first_where test (x ∷ xs) = if test x then Some 0 else option_map (λ p. p + 1) (first_where test xs)

-- a first place, after an item that passes or not was added at a place
abbrev pub or_at : Option ℕ → Bool → ℕ → Option ℕ
or_at (Some p) passes at = Some p
or_at None passes at = if passes then Some at else None

-- what a table has for a name
abbrev pub listed : {S : Type 0} → IndexMap (List ℕ) (List ℕ) S → List ℕ → List ℕ
listed table name = unwrap_or (get (pointwise nat_eq) table name) []

-- the place, if the names are the same
abbrev pub place_for : List ℕ → ℕ → List ℕ → Option ℕ
place_for name place q = if is_text name q then Some place else None

-- the places of the items that pass a test, where the list begins at place p
abbrev pub places_where : {X : Type 0} → (X → Bool) → ℕ → List X → List ℕ
places_where test p [] = []
places_where test p (x ∷ xs) = if test x then p ∷ places_where test (p + 1) xs else places_where test (p + 1) xs

-- the first of some places whose item passes a test
abbrev pub first_of_places : {X : Type 0} → (X → Bool) → List X → List ℕ → Option ℕ
first_of_places test xs [] = None
first_of_places test xs (p ∷ ps) = if option_map_or test (slice_get xs p) false then Some p else first_of_places test xs ps

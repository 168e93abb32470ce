-- How frames (JVMS 2.6) are kept: the top one, and those below it from the bottom up.
use Rattle.std.specs.Prelude.{List, ◌∷◌, Option, None, Some, reverse}

-- all of them from the top down
abbrev pub top_first : {X : Type 0} → Option X → List X → List X
top_first None below = reverse below
top_first (Some top) below = top ∷ reverse below

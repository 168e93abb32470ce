-- How facts (`java.lang.Module`) are kept: names by their numbers, and tables beside the list.
use Rattle.std.specs.Prelude.{◌≡◌, ℕ, ◌+◌, ◌<◌, ◌≤◌, List, [], length, Option, None, Some, Bool, true, false, ◌&&◌, ◌==◌, slice_get}
use Rattle.std.specs.List.{list_any}
use Rattle.jl_logic.specs.Order.{is_text}
use Rattle.jl_access.specs.declared.statement.Reach.{Reach}
use Rattle.jl_access.specs.declared.statement.Reach.TheVariants.{All, To, Nobody}
use Rattle.jl_access.specs.declared.table.About.{About}
use Rattle.jl_access.specs.declared.table.About.TheVariants.{Exports, Opens, Uses}
use Rattle.jl_access.specs.declared.table.Fact.{Fact}
use Rattle.jl_access.specs.declared.table.Fact.TheVariants.{Reads, Of}
use Rattle.jl_access.specs.Facts.{is_same}

-- ---- names

-- texts by their numbers, and for how many more there is room
pub record Texts : Type 0 where
  pub texts : List (List ℕ)
  pub spare_texts : ℕ

-- the same text in two values that hold one
abbrev pub same_items : {V : Type 0} → (V → List ℕ) → V → V → Bool
same_items items a b = is_text (items a) (items b)

-- the text, or the empty one where there is none
abbrev pub text_in : Option (List ℕ) → List ℕ
text_in None = []
text_in (Some t) = t

-- the text at a place, or none
abbrev pub text_at : List (List ℕ) → ℕ → List ℕ
text_at texts n = text_in (slice_get texts n)

-- the number that was found
abbrev pub is_number : Option ℕ → ℕ → Bool
is_number None n = false
is_number (Some k) n = n == k

-- of the numbers in range, the found one alone is that of the text
abbrev pub IsNumberOf : List (List ℕ) → List ℕ → Option ℕ → Type 0
IsNumberOf texts t found = (n : ℕ) → n < length texts → is_text (text_at texts n) t ≡ is_number found n

-- ---- facts

-- facts in order, and for how many more there is room
pub record Known : Type 0 where
  pub facts : List Fact
  pub spare_facts : ℕ

-- the same reach
abbrev pub is_same_reach : Reach → Reach → Bool
is_same_reach All All = true
is_same_reach (To a) (To b) = is_same a b
is_same_reach Nobody Nobody = true
is_same_reach _ _ = false

-- the same, said of a name
abbrev pub is_same_about : About → About → Bool
is_same_about (Exports a r) (Exports b s) = is_same a b && is_same_reach r s
is_same_about (Opens a r) (Opens b s) = is_same a b && is_same_reach r s
is_same_about (Uses a) (Uses b) = is_same a b
is_same_about _ _ = false

-- the same fact
abbrev pub same_fact : Fact → Fact → Bool
same_fact (Reads a b) (Reads c d) = is_same a c && is_same b d
same_fact (Of x n) (Of y m) = is_same_about x y && (m == n)
same_fact _ _ = false

-- ---- without the reach

-- what is said of a name, where the reach is that to all
abbrev pub about_all : About → About
about_all (Exports m r) = Exports m All
about_all (Opens m r) = Opens m All
about_all (Uses m) = Uses m

-- a fact, where the reach is that to all
abbrev pub to_all : Fact → Fact
to_all (Reads a b) = Reads a b
to_all (Of x n) = Of (about_all x) n

-- the two sets have the facts, and what they are whatever their reach
pub record IsTable (facts exact anywhere : List Fact) : Type 0 where
  pub exact_ones : (k : Fact) → list_any (same_fact k) exact ≡ list_any (same_fact k) facts
  pub any_ones : (k : Fact) → list_any (same_fact k) anywhere ≡ list_any (λ f. same_fact k (to_all f)) facts

-- each of the three has so much room
pub record IsRoom (spare len capacity exact anywhere : ℕ) : Type 0 where
  pub list_room : len + spare ≤ capacity
  pub exact_room : spare ≤ exact
  pub any_room : spare ≤ anywhere

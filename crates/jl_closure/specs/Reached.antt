-- The least set that holds the starts and, with each place, those that follow it: the ends of chains.
use Rattle.std.specs.Prelude.{◌≡◌, ℕ, zero, suc, List, [], length, Bool, true, Some, Contains, slice_get, slice_index_or}

-- place b follows place a
abbrev pub Follows : List (List ℕ) → ℕ → ℕ → Type 0
Follows next a b = Contains (slice_index_or next a []) b

-- p ends a chain of n steps that begins with a start
abbrev pub Chain : List (List ℕ) → List ℕ → ℕ → ℕ → Type 0
Chain next starts zero p = Contains starts p
Chain next starts (suc n) p = (q : ℕ) × Chain next starts n q × Follows next q p

-- p ends a chain that begins with a start
abbrev pub IsReached : List (List ℕ) → List ℕ → ℕ → Type 0
IsReached next starts p = (n : ℕ) × Chain next starts n p

-- one mark for each place, set for exactly those that are reached
pub record AreMarksOf (next : List (List ℕ)) (starts : List ℕ) (marks : List Bool) : Type 0 where
  pub one_each : length marks ≡ length next
  pub only : (p : ℕ) → slice_get marks p ≡ Some true → IsReached next starts p
  pub all : (p : ℕ) → IsReached next starts p → slice_get marks p ≡ Some true

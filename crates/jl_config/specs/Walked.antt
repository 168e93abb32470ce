-- The walk over parents (`Configuration.resolve`): the words of the code that lists the ancestors. No public clause cites these.
use Rattle.std.specs.Prelude.{ℕ, ◌<◌, List, [], ◌∷◌, ◌++◌, Contains, Bool, false, ◌||◌, if◌then◌else◌}
use Rattle.jl_prim.specs.declared.numbers.ConfigId.{ConfigId}
use Rattle.jl_config.specs.Configurations.{Configuration}
use Rattle.jl_config.specs.Located.{is_numbered, parents_below, configuration_of}

-- the numbers that the walk has come to, all below one
pub record Visited : Type 0 where
  pub room : ℕ
  pub numbers : List ConfigId

-- the number is one of these
abbrev pub is_among : ConfigId → List ConfigId → Bool
is_among c [] = false
is_among c (d ∷ ds) = is_numbered d c || is_among c ds

-- a number behind those that are there, if it is not among them
abbrev pub with_number : List ConfigId → ConfigId → List ConfigId
with_number ns c = if is_among c ns then ns else ns ++ c ∷ []

-- one number after the other
abbrev pub with_numbers : List ConfigId → List ConfigId → List ConfigId
with_numbers ns [] = ns
with_numbers ns (c ∷ cs) = with_numbers (with_number ns c) cs

-- with each of the numbers below a bound those of its parents are there
abbrev pub IsClosedBelow : List Configuration → ConfigId → List ConfigId → Type 0
IsClosedBelow known bound ns = (c : ConfigId) (p : ConfigId) → Contains ns c → c.0 < bound.0
    → Contains (parents_below c (configuration_of known c).parents) p → Contains ns p

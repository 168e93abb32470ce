-- Counts of faults. They never fall, and stand still at the last value of their type.
use Rattle.std.specs.Prelude.{◌≡◌, ℕ, ◌+◌, ◌<◌, ◌⊎◌, min}

abbrev pub last_count : ℕ
last_count = 18446744073709551615

-- the count rose, or stood at its last value
abbrev pub Rose : ℕ → ℕ → Type 0
Rose old new = (old < new) ⊎ (old ≡ last_count)

-- a count that rises by one, up to its last value
abbrev pub raised : ℕ → ℕ
raised n = min (n + 1) last_count

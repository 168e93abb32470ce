-- Where a text stops to be one of a form, as of descriptors (JVMS 4.3) or of modified UTF-8 (JVMS 4.4.7).
use Rattle.std.specs.Prelude.{◌≡◌, ℕ, ◌+◌, ◌<◌, List, ◌++◌, length, take, ◌⊎◌}

-- the text ends too early
abbrev pub EndsEarly : (List ℕ → Type 0) → List ℕ → ℕ → Type 0
EndsEarly IsFine text at = (at ≡ length text) × (IsFine text → ⊥)

-- no text of the form goes on with the byte at this place
abbrev pub NoneGoesOn : (List ℕ → Type 0) → List ℕ → ℕ → Type 0
NoneGoesOn IsFine text at = (at < length text) × ((rest : List ℕ) → IsFine (take (at + 1) text ++ rest) → ⊥)

-- What stands before the place begins some text of the form. With the byte there, or at the end, none goes on.
pub record IsBadAt (IsFine : List ℕ → Type 0) (text : List ℕ) (at : ℕ) : Type 0 where
  pub begins : (rest : List ℕ) × IsFine (take at text ++ rest)
  pub stops : EndsEarly IsFine text at ⊎ NoneGoesOn IsFine text at

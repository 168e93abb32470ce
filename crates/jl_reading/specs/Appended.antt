-- What a reader answers where more bytes follow those that it was given (class files are read so, JVMS 4.1).
use Rattle.std.specs.Prelude.{◌≡◌, ℕ, ◌<◌, ◌≤◌, List, ◌++◌, length, Option, None, Some, Result, Ok, Err, MatchOption, ⊤, ◌⊎◌}
use Rattle.jl_reading.specs.Reading.{IsBytes}

-- A place was read past: what was read ends behind it, or the fault is of no cut number, or of one that is cut behind it. Of a fault, cut_at is the place of the number that is cut.
abbrev pub IsPast : {X F : Type 0} → (F → Option ℕ) → (X → ℕ) → ℕ → Result X F → Type 0
IsPast cut_at next p (Ok x) = p < next x
IsPast cut_at next p (Err f) = MatchOption (cut_at f) ⊤ (λ q. p < q)

-- Some longer input, which begins with the bytes, is read past a place.
abbrev pub GoesPast : {X F : Type 0} → (F → Option ℕ) → (X → ℕ) → (List ℕ → Result X F) → List ℕ → ℕ → Type 0
GoesPast cut_at next reading bytes p = (more : List ℕ) × IsBytes more × IsPast cut_at next p (reading (bytes ++ more))

-- The answer is the same whatever follows the bytes.
abbrev pub Stays : {X F : Type 0} → (List ℕ → Result X F) → List ℕ → Type 0
Stays reading bytes = (more : List ℕ) → reading (bytes ++ more) ≡ reading bytes

-- The words for a reading that reads in no part of a length.
abbrev pub NoPart : List ℕ → ℕ → Type 0
NoPart bytes p = ⊥

-- A reading from a place on, under bytes that follow. Windows says of the bytes at which places it reads in parts whose lengths it has read: a number that such a part cuts is cut whatever follows.
pub record Appends {X F : Type 0} (cut_at : F → Option ℕ) (next : X → ℕ) (Windows : List ℕ → ℕ → Type 0) (start : ℕ) (reading : List ℕ → Result X F) : Type 0 where
  -- what is read is read also where more follows
  pub read : (bytes : List ℕ) (x : X) → start ≤ length bytes → reading bytes ≡ Ok x → (start ≤ next x) × (next x ≤ length bytes) × Stays reading bytes
  -- a fault of no cut number stays
  pub fault : (bytes : List ℕ) (f : F) → start ≤ length bytes → reading bytes ≡ Err f → cut_at f ≡ None → Stays reading bytes
  -- a number is cut at a place within the bytes, and some longer input is read past it
  pub cut : (bytes : List ℕ) (f : F) (p : ℕ) → start ≤ length bytes → reading bytes ≡ Err f → cut_at f ≡ Some p
      → (start ≤ p) × (p ≤ length bytes) × (GoesPast cut_at next reading bytes p ⊎ (Windows bytes p × Stays reading bytes))

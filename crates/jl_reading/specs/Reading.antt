-- Readers on lists: a value and the place after it, or the first fault. F is the type of the faults.
use Rattle.std.specs.Prelude.{◌≡◌, ℕ, zero, suc, ◌+◌, ◌≤◌, nat_lt, List, [], ◌∷◌, ◌++◌, length, take, drop, slice_index, ◌<◌, Result, Ok, Err, if◌then◌else◌}
use Rattle.std.specs.List.{flat_map}
use Rattle.byteorder.specs.Endian.{big_number, big_bytes}

-- read, and go on with what was read
infixl 10 ◌>>=◌
abbrev pub ◌>>=◌ : {A B F : Type 0} → Result A F → (A → Result B F) → Result B F
(Ok x) >>= f = f x
(Err e) >>= f = Err e

-- The number in k bytes from a place on. One that is not whole is short, at its place.
abbrev pub number_at : {F : Type 0} → (ℕ → F) → ℕ → List ℕ → ℕ → Result (ℕ × ℕ) F
number_at short k bytes at = if nat_lt (length bytes) (at + k) then Err (short at) else Ok (big_number k (drop at bytes), at + k)

-- So many units, one after the other. Each is read with those before it at hand.
unfoldable pub each_at : {X F : Type 0} → (List X → ℕ → Result (X × ℕ) F) → List X → ℕ → ℕ → Result (List X × ℕ) F
each_at one done zero at = Ok (done, at)
each_at one done (suc n) at = one done at >>= λ x. each_at one (done ++ x.0 ∷ []) n x.1

-- So many steps, one after the other. Each is taken with what the steps before it came to.
unfoldable pub steps_at : {S F : Type 0} → (S → ℕ → Result (S × ℕ) F) → ℕ → S → ℕ → Result (S × ℕ) F
steps_at one zero done at = Ok (done, at)
steps_at one (suc n) done at = one done at >>= λ x. steps_at one n x.0 x.1

-- The text stands in the bytes from a place up to the next.
pub record Stands (bytes : List ℕ) (at : ℕ) (text : List ℕ) (next : ℕ) : Type 0 where
  pub there : take (length text) (drop at bytes) ≡ text
  pub ends : next ≡ at + length text
  pub within : next ≤ length bytes

-- each is a byte
abbrev pub IsBytes : List ℕ → Type 0
IsBytes bytes = (i : ℕ) → slice_index bytes i < 256

-- a number in two bytes, and in four
abbrev pub two : ℕ → List ℕ
two n = big_bytes 2 n

abbrev pub four : ℕ → List ℕ
four n = big_bytes 4 n

-- a count in two bytes, and so many rows
abbrev pub counted : {A : Type 0} → (A → List ℕ) → List A → List ℕ
counted row_bytes rows = two (length rows) ++ flat_map row_bytes rows

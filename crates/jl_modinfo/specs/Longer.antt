-- Reading a declaration file where more bytes follow those that are read (JVMS 4.1, 4.7.25 to 4.7.27).
use Rattle.std.specs.Prelude.{◌≡◌, ℕ, ◌+◌, ◌<◌, ◌≤◌, List, ◌++◌, length, drop, Option, None, Some, Result, Ok, Err, Bool, true, false, MatchOption, ⊤, ◌⊎◌}
use Rattle.byteorder.specs.Endian.{big_number}
use Rattle.jl_reading.specs.Reading.{IsBytes}
use Rattle.jl_reading.specs.Appended.{Stays}
use Rattle.jl_tables.specs.declared.fault.InfoFault.{InfoFault}
use Rattle.jl_tables.specs.declared.fault.InfoFault.TheVariants as faults
use Rattle.jl_modinfo.specs.Reading.{info_of}

-- the place of a number, a text or a content that is cut
abbrev pub cut_at : InfoFault → Option ℕ
cut_at (faults.Short at) = Some at
cut_at _ = None

-- a fault of what was read: not of what is cut, nor of an end, nor of a rule that is looked at behind the end
abbrev pub is_lasting : InfoFault → Bool
is_lasting faults.BadMagic = true
is_lasting faults.BadVersion = true
is_lasting (faults.BadPool i) = true
is_lasting (faults.NotModule field) = true
is_lasting faults.NoModuleAttribute = true
is_lasting (faults.BadIndex at) = true
is_lasting (faults.Repeated table name) = true
is_lasting _ = false

-- A file is read past a place: nothing at or before it is cut.
abbrev pub IsReadPast : {D : Type 0} → ℕ → Result D InfoFault → Type 0
IsReadPast p (Ok d) = ⊤
IsReadPast p (Err f) = MatchOption (cut_at f) ⊤ (λ q. p < q)

-- A place lies in the content of an attribute, which stands behind its length in four bytes: a content that is whole, or one that is too short for any number and begins there.
pub record LiesInContent (bytes : List ℕ) (p : ℕ) : Type 0 where
  -- where the length stands
  pub at : ℕ
  pub size : ℕ
  pub is_length : big_number 4 (drop at bytes) ≡ size
  pub within : (at + 4 ≤ p) × (p ≤ at + 4 + size)
  pub whole : (at + 4 + size ≤ length bytes) ⊎ ((size < 2) × (p ≡ at + 4))

-- A reading of a whole file, or of the rest of it from a place on, where more bytes follow.
pub record Lasts {D : Type 0} (start : ℕ) (reading : List ℕ → Result D InfoFault) : Type 0 where
  -- such a fault stays
  pub fault : (bytes : List ℕ) (f : InfoFault) → start ≤ length bytes → reading bytes ≡ Err f → is_lasting f ≡ true → Stays reading bytes
  -- What is cut has its place within the bytes. Some longer file is read past it, or it lies in the content of an attribute, whose length cuts it whatever follows.
  pub cut : (bytes : List ℕ) (f : InfoFault) (p : ℕ) → start ≤ length bytes → reading bytes ≡ Err f → cut_at f ≡ Some p
      → (start ≤ p) × (p ≤ length bytes) × (((more : List ℕ) × IsBytes more × IsReadPast p (reading (bytes ++ more))) ⊎ (LiesInContent bytes p × Stays reading bytes))

-- what reading a declaration file answers where more bytes follow
abbrev pub ReadsLonger : Type 0
ReadsLonger = (found : List (List ℕ)) → Lasts 0 (λ bytes. info_of bytes found)

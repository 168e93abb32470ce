-- Reading a class file where more bytes follow those that are read (JVMS 4.1).
use Rattle.std.specs.Prelude.{◌≡◌, ℕ, ◌<◌, ◌≤◌, List, ◌∷◌, ◌++◌, length, Option, None, Some, Result, Ok, Err, MatchOption, ⊤}
use Rattle.jl_reading.specs.Reading.{IsBytes}
use Rattle.jl_reading.specs.Appended.{Stays}
use Rattle.jl_class.specs.declared.fault.ClassFault.{ClassFault}
use Rattle.jl_class.specs.declared.fault.ClassFault.TheVariants as faults
use Rattle.jl_class.specs.Reading.{class_of}

-- the place of a number, a text or a content that is cut
abbrev pub cut_at : ClassFault → Option ℕ
cut_at (faults.Short at) = Some at
cut_at _ = None

-- A file is read past a place: nothing at or before it is cut.
abbrev pub IsReadPast : {C : Type 0} → ℕ → Result C ClassFault → Type 0
IsReadPast p (Ok c) = ⊤
IsReadPast p (Err f) = MatchOption (cut_at f) ⊤ (λ q. p < q)

-- A reading of a whole file, or of the rest of it from a place on, where more bytes follow.
pub record Lasts {C : Type 0} (start : ℕ) (reading : List ℕ → Result C ClassFault) : Type 0 where
  -- a file that was read ends there: what follows is left over
  pub read : (bytes : List ℕ) (c : C) (b : ℕ) (more : List ℕ) → start ≤ length bytes → reading bytes ≡ Ok c → reading (bytes ++ b ∷ more) ≡ Err faults.Trailing
  -- every fault stays but that of what is cut
  pub fault : (bytes : List ℕ) (f : ClassFault) → start ≤ length bytes → reading bytes ≡ Err f → cut_at f ≡ None → Stays reading bytes
  -- what is cut has its place within the bytes, and some longer file is read past it
  pub cut : (bytes : List ℕ) (f : ClassFault) (p : ℕ) → start ≤ length bytes → reading bytes ≡ Err f → cut_at f ≡ Some p
      → (start ≤ p) × (p ≤ length bytes) × ((more : List ℕ) × IsBytes more × IsReadPast p (reading (bytes ++ more)))

-- what reading a class file answers where more bytes follow
abbrev pub ReadsLonger : Type 0
ReadsLonger = Lasts 0 class_of

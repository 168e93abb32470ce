-- What the reading of a content shows of it.
use Rattle.std.specs.Prelude.{◌≡◌, ◌≢◌, Bool, true, false, None, Result, Ok, Err}
use Rattle.jl_class.specs.declared.fault.ClassFault.{ClassFault}
use Rattle.jl_class.specs.Faults.{told}

-- A content is right where it was read, and wrong where a fault is told.
abbrev pub IsJudged : {A : Type 0} → Result A ClassFault → Bool → Type 0
IsJudged (Ok x) b = b ≡ true
IsJudged (Err f) b = (told f ≢ None) × (b ≡ false)

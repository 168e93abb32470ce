-- What making the declared frames answers (JVMS 4.7.4).
use Rattle.std.specs.Prelude.{◌≡◌, ℕ, List, Result, Ok, Err, ⊤}
use Rattle.std.specs.Global.{Vec}
use Rattle.jl_verify.specs.declared.declared_frame.DeclaredFrame.{DeclaredFrame}
use Rattle.jl_verify.specs.declared.declaring.MadeEnd.{MadeEnd}
use Rattle.jl_verify.specs.declared.declaring.MadeEnd.TheVariants.{Wrong, NoMemory}

-- the frames or the place of the first that is wrong, unless there was no memory
abbrev pub IsMade : Result (Vec DeclaredFrame) MadeEnd → Result (List DeclaredFrame) ℕ → Type 0
IsMade (Ok v) defined = defined ≡ Ok v.items
IsMade (Err (Wrong at)) defined = defined ≡ Err at
IsMade (Err NoMemory) defined = ⊤

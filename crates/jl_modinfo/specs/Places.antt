-- Reading on to a later place (JVMS 4.1).
use Rattle.std.specs.Prelude.{◌≡◌, ℕ, List, Option, Result, Ok, Err}
use Rattle.jl_logic.specs.Answers.{Fails}
use Rattle.jl_classfile.specs.declared.place.Place.{Place}

-- A call went on in these bytes to the place that the definition gives, or failed as it does.
abbrev pub Moves : {E F : Type 0} → (E → Option F) → List ℕ → Result Place E → Result ℕ F → Type 0
Moves told bytes (Ok next) defined = (next.bytes.now ≡ bytes) × (defined ≡ Ok next.at)
Moves told bytes (Err e) defined = Fails told e defined

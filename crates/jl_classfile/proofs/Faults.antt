-- Errors of calls and the faults that they tell.
use Rattle.std.proofs.Common.{◌≡◌, Option, None, Some, Result, Err, ◌∙◌, ap}
use Rattle.std.specs.Prelude.{⊤, MatchOption}
use Rattle.jl_logic.specs.Answers.{Fails}
use Rattle.jl_classfile.specs.Attributes.{IsFault}

told_of : {Y F : Type 0} (o : Option F) (f : F) (r : Result Y F) → MatchOption o ⊤ (λ g. f ≡ g) → r ≡ Err f → MatchOption o ⊤ (λ d. r ≡ Err d)
told_of None f r h e = tt
told_of (Some d) f r h e = e ∙ ap (λ k. Err k) h

-- an error that tells the fault of a definition
pub fault_of : {Y E F : Type 0} (told : E → Option F) (e : E) (f : F) (r : Result Y F) → IsFault told e f → r ≡ Err f → Fails told e r
fault_of told e f r h is = told_of (told e) f r h is

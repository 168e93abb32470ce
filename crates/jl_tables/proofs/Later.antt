-- The fault of a later step is that of the whole reading.
use Rattle.std.proofs.Common.{◌≡◌, Option, None, Some, Result, Ok, Err}
use Rattle.std.specs.Prelude.{⊤, MatchOption}
use Rattle.jl_logic.specs.Answers.{Fails}
use Rattle.jl_reading.specs.Reading.{◌>>=◌}
use Rattle.jl_reading.proofs.Appended.{bind_fails}

told_first : {A B F : Type 0} (o : Option F) (r : Result A F) (f : A → Result B F) → MatchOption o ⊤ (λ d. r ≡ Err d) → MatchOption o ⊤ (λ d. (r >>= f) ≡ Err d)
told_first None r f h = tt
told_first (Some d) r f h = bind_fails f h

-- a step that fails ends what begins with it
pub fails_first : {A B E F : Type 0} (told : E → Option F) (e : E) (r : Result A F) (f : A → Result B F) → Fails told e r → Fails told e (r >>= f)
fails_first told e r f h = told_first (told e) r f h

-- what fails behind a step that gives a value
pub fails_then : {A B E F : Type 0} (told : E → Option F) (e : E) (r : Result A F) (x : A) (f : A → Result B F) → r ≡ Ok x → Fails told e (f x) → Fails told e (r >>= f)
fails_then told e r x f is h = rw is h

-- Units that a loop reads one after the other, each from a place in the same bytes.
use Rattle.std.proofs.Common.{◌≡◌, ℕ, ◌-◌, ◌+◌, ◌<◌, List, [], ◌∷◌, ◌++◌, Option, Result, Ok, subst}
use Rattle.jl_logic.specs.Answers.{Fails}
use Rattle.jl_reading.specs.Reading.{each_at, steps_at}
use Rattle.jl_reading.proofs.Each.{each_more, each_ends, steps_more, steps_end}

-- one more unit is read
pub unit_more : {X F : Type 0} (one : List ℕ → List X → ℕ → Result (X × ℕ) F) (bytes here : List ℕ) (done : List X) (count i at : ℕ) (x : X) (next : ℕ) (total : Result (List X × ℕ) F)
    → here ≡ bytes → i < count → one here done at ≡ Ok (x, next) → each_at (one bytes) done (count - i) at ≡ total → each_at (one bytes) (done ++ x ∷ []) (count - (i + 1)) next ≡ total
unit_more one bytes here done count i at x next total same lt h so_far = each_more (one bytes) done count i at x next total lt (subst (λ b. one b done at ≡ Ok (x, next)) same h) so_far

-- a unit that is not read ends the reading
pub unit_ends : {X E F : Type 0} (told : E → Option F) (e : E) (one : List ℕ → List X → ℕ → Result (X × ℕ) F) (bytes here : List ℕ) (done : List X) (count i at : ℕ) (total : Result (List X × ℕ) F)
    → here ≡ bytes → i < count → Fails told e (one here done at) → each_at (one bytes) done (count - i) at ≡ total → Fails told e total
unit_ends told e one bytes here done count i at total same lt h so_far = each_ends told e (one bytes) done count i at total lt (subst (λ b. Fails told e (one b done at)) same h) so_far

-- one more step is taken
pub step_more : {S F : Type 0} (one : List ℕ → S → ℕ → Result (S × ℕ) F) (bytes here : List ℕ) (done : S) (count i at : ℕ) (x : S) (next : ℕ) (total : Result (S × ℕ) F)
    → here ≡ bytes → i < count → one here done at ≡ Ok (x, next) → steps_at (one bytes) (count - i) done at ≡ total → steps_at (one bytes) (count - (i + 1)) x next ≡ total
step_more one bytes here done count i at x next total same lt h so_far = steps_more (one bytes) done count i at x next total lt (subst (λ b. one b done at ≡ Ok (x, next)) same h) so_far

-- a step that is not taken ends the reading
pub step_ends : {S E F : Type 0} (told : E → Option F) (e : E) (one : List ℕ → S → ℕ → Result (S × ℕ) F) (bytes here : List ℕ) (done : S) (count i at : ℕ) (total : Result (S × ℕ) F)
    → here ≡ bytes → i < count → Fails told e (one here done at) → steps_at (one bytes) (count - i) done at ≡ total → Fails told e total
step_ends told e one bytes here done count i at total same lt h so_far = steps_end told e (one bytes) done count i at total lt (subst (λ b. Fails told e (one b done at)) same h) so_far

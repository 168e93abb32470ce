-- Steps that end with the first fault, and what a tree may tell.
use Rattle.std.proofs.Common.{◌≡◌, ◌≤◌, ℕ, inl, inr, ⊎_elim, arith, Option, None, Some, Result, Ok, Err, refl, ◌∙◌, ap}
use Rattle.std.specs.Prelude.{MatchOption, ⊤, IfSome}
use Rattle.jl_logic.specs.Answers.{Fails}
use Rattle.std.proofs.lemmas.Bool.{cases_lt}
use Rattle.jl_logic.specs.Counts.{Rose}
use Rattle.jl_reading.specs.Reading.{◌>>=◌}
use Rattle.jl_reading.proofs.Steps as steps

pub fails_as : {A B F : Type 0} (t : Option F) (r : Result A F) (total : Result B F) → ((f : F) → r ≡ Err f → total ≡ Err f)
    → MatchOption t ⊤ (λ d. r ≡ Err d) → MatchOption t ⊤ (λ d. total ≡ Err d)
fails_as None r total h k = tt
fails_as (Some d) r total h k = h d k

-- a step that fails ends all
pub step_fails : {A B E F : Type 0} (told : E → Option F) (e : E) (r : Result A F) (f : A → Result B F) → Fails told e r → Fails told e (r >>= f)
step_fails told e r f h = steps.fails_as (told e) r f (r >>= f) h refl

-- the same of a later equation
pub fails_so : {B E F : Type 0} (told : E → Option F) (e : E) (r total : Result B F) → total ≡ r → Fails told e r → Fails told e total
fails_so told e r total q h = fails_as (told e) r total (λ f k. q ∙ k) h

pub step_done : {A B F : Type 0} (r : Result A F) (f : A → Result B F) (x : A) → r ≡ Ok x → (r >>= f) ≡ f x
step_done (Ok y) f x e = let q : y ≡ x = cc in ap f q
step_done (Err d) f x e = absurd cc

-- what holds of all files that a tree may tell
pub if_told : {X : Type 0} (o : Option X) (P : X → Type 0) → ((x : X) → o ≡ Some x → P x) → IfSome o P
if_told None P h = tt
if_told (Some x) P h = h x refl

-- a count that rose later rose
pub rose_from : (a b c : ℕ) → a ≤ b → b ≤ c → Rose b c → Rose a c
rose_from a b c le lf h = ⊎_elim (λ l. inl (omega (arith, le, l))) (λ e. ⊎_elim (λ l. inl l) (λ m. inr (omega (arith, le, lf, m, e))) (cases_lt a c)) h

pub err_retyped : {A B F : Type 0} (e d : F) → ◌≡◌ {A = Result A F} (Err e) (Err d) → ◌≡◌ {A = Result B F} (Err e) (Err d)
err_retyped e d h = let q : e ≡ d = cc in ap (λ t. Err t) q

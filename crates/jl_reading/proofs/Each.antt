-- Reading units one after the other, as a loop does.
use Rattle.std.proofs.Common.{◌≡◌, ℕ, suc, ◌-◌, ◌+◌, ◌≤◌, ◌<◌, List, [], ◌∷◌, ◌++◌, Option, Result, Ok, refl, sym, ◌∙◌, arith}
use Rattle.jl_logic.specs.Answers.{Fails}
use Rattle.jl_reading.specs.Reading.{◌>>=◌, each_at, steps_at}
use Rattle.jl_reading.proofs.Steps.{fails_as}

-- one more unit is read
pub each_more : {X F : Type 0} (one : List X → ℕ → Result (X × ℕ) F) (done : List X) (count i at : ℕ) (x : X) (next : ℕ) (total : Result (List X × ℕ) F)
    → i < count → one done at ≡ Ok (x, next) → each_at one done (count - i) at ≡ total → each_at one (done ++ x ∷ []) (count - (i + 1)) next ≡ total
unfolding each_at
each_more one done count i at x next total lt h so_far =
    let k : count - i ≡ suc (count - (i + 1)) = omega arith in
    let one_more : each_at one done (count - i) at ≡ each_at one (done ++ x ∷ []) (count - (i + 1)) next = rw (k, h) refl in
    sym one_more ∙ so_far

-- a unit that is not read ends the reading
pub each_ends : {X E F : Type 0} (told : E → Option F) (e : E) (one : List X → ℕ → Result (X × ℕ) F) (done : List X) (count i at : ℕ) (total : Result (List X × ℕ) F)
    → i < count → Fails told e (one done at) → each_at one done (count - i) at ≡ total → Fails told e total
unfolding each_at
each_ends told e one done count i at total lt h so_far =
    let k : count - i ≡ suc (count - (i + 1)) = omega arith in
    let begun : (one done at >>= λ x. each_at one (done ++ x.0 ∷ []) (count - (i + 1)) x.1) ≡ total = (rw k at so_far) in
    fails_as (told e) (one done at) (λ x. each_at one (done ++ x.0 ∷ []) (count - (i + 1)) x.1) total h begun

-- all are read
pub each_done : {X F : Type 0} (one : List X → ℕ → Result (X × ℕ) F) (done : List X) (count i at : ℕ) (total : Result (List X × ℕ) F)
    → count ≤ i → each_at one done (count - i) at ≡ total → total ≡ Ok (done, at)
unfolding each_at
each_done one done count i at total le so_far =
    let k : count - i ≡ 0 = omega arith in
    let ended : each_at one done (count - i) at ≡ Ok (done, at) = rw k refl in
    sym so_far ∙ ended

-- one more step is taken
pub steps_more : {S F : Type 0} (one : S → ℕ → Result (S × ℕ) F) (done : S) (count i at : ℕ) (x : S) (next : ℕ) (total : Result (S × ℕ) F)
    → i < count → one done at ≡ Ok (x, next) → steps_at one (count - i) done at ≡ total → steps_at one (count - (i + 1)) x next ≡ total
unfolding steps_at
steps_more one done count i at x next total lt h so_far =
    let k : count - i ≡ suc (count - (i + 1)) = omega arith in
    let one_more : steps_at one (count - i) done at ≡ steps_at one (count - (i + 1)) x next = rw (k, h) refl in
    sym one_more ∙ so_far

-- a step that is not taken ends the reading
pub steps_end : {S E F : Type 0} (told : E → Option F) (e : E) (one : S → ℕ → Result (S × ℕ) F) (done : S) (count i at : ℕ) (total : Result (S × ℕ) F)
    → i < count → Fails told e (one done at) → steps_at one (count - i) done at ≡ total → Fails told e total
unfolding steps_at
steps_end told e one done count i at total lt h so_far =
    let k : count - i ≡ suc (count - (i + 1)) = omega arith in
    let begun : (one done at >>= λ x. steps_at one (count - (i + 1)) x.0 x.1) ≡ total = (rw k at so_far) in
    fails_as (told e) (one done at) (λ x. steps_at one (count - (i + 1)) x.0 x.1) total h begun

-- all are taken
pub steps_done : {S F : Type 0} (one : S → ℕ → Result (S × ℕ) F) (done : S) (count i at : ℕ) (total : Result (S × ℕ) F)
    → count ≤ i → steps_at one (count - i) done at ≡ total → total ≡ Ok (done, at)
unfolding steps_at
steps_done one done count i at total le so_far =
    let k : count - i ≡ 0 = omega arith in
    let ended : steps_at one (count - i) done at ≡ Ok (done, at) = rw k refl in
    sym so_far ∙ ended

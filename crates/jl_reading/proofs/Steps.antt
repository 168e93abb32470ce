-- What follows from a reading that ended well.
use Rattle.std.proofs.Common.{◌≡◌, Bool, true, false, not, cond, Option, None, Some, Result, Ok, Err, refl, sym, ◌∙◌}
use Rattle.std.specs.Prelude.{MatchOption, ⊤}
use Rattle.jl_reading.specs.Reading.{◌>>=◌}

-- the value of a step that did not fail
pub bind_ok : {A B F : Type 0} (r : Result A F) (f : A → Result B F) (y : B) → (r >>= f) ≡ Ok y → (x : A) × (r ≡ Ok x) × (f x ≡ Ok y)
bind_ok (Ok x) f y e = (x, refl, e)
bind_ok (Err d) f y e = absurd cc

-- a test that did not fail
pub guard_ok : {A F : Type 0} (b : Bool) (d : F) (r : Result A F) (y : A) → cond b (Err d) r ≡ Ok y → (b ≡ false) × (r ≡ Ok y)
guard_ok true d r y e = absurd cc
guard_ok false d r y e = (refl, e)

abbrev done : {A F : Type 0} → A → Result A F
done x = Ok x

pub ok_is : {A F : Type 0} (x y : A) → done {F = F} x ≡ done y → x ≡ y
ok_is x y e = cc

-- a step that gives a value, and the rest with it
pub bind_to : {A B F : Type 0} {r : Result A F} {x : A} {y : B} (f : A → Result B F) → r ≡ Ok x → f x ≡ Ok y → (r >>= f) ≡ Ok y
bind_to f e g = rw e g

-- a test that has to hold
pub not_ok : {A F : Type 0} (b : Bool) (d : F) (r : Result A F) (y : A) → cond (not b) (Err d) r ≡ Ok y → (b ≡ true) × (r ≡ Ok y)
not_ok true d r y e = (refl, e)
not_ok false d r y e = absurd cc

pub else_ok : {A F : Type 0} (b : Bool) (d : F) (r : Result A F) (y : A) → cond b r (Err d) ≡ Ok y → (b ≡ true) × (r ≡ Ok y)
else_ok true d r y e = (refl, e)
else_ok false d r y e = absurd cc

-- one of two readings
pub cond_ok : {A : Type 0} {C : Type 0} (b : Bool) (r q : A) (y : A) → cond b r q ≡ y → (b ≡ true → r ≡ y → C) → (b ≡ false → q ≡ y → C) → C
cond_ok true r q y e on off = on refl e
cond_ok false r q y e on off = off refl e

pub cond_so : {A : Type 0} (b : Bool) (r q y : A) → (b ≡ true → r ≡ y) → (b ≡ false → q ≡ y) → cond b r q ≡ y
cond_so true r q y on off = on refl
cond_so false r q y on off = off refl

-- a step that failed ends the whole
pub fails_as : {A B F : Type 0} (told : Option F) (r : Result A F) (f : A → Result B F) (total : Result B F)
    → MatchOption told ⊤ (λ d. r ≡ Err d) → (r >>= f) ≡ total → MatchOption told ⊤ (λ d. total ≡ Err d)
fails_as None r f total h e = tt
fails_as (Some d) r f total h e =
    let stopped : (r >>= f) ≡ Err d = rw h refl in
    sym e ∙ stopped

-- What calls leave, one behind the other.
use Rattle.std.proofs.Common.{◌≡◌, Result, Ok, Err, sym, ◌∙◌, ap, subst}
use Rattle.jl_loads.specs.declared.end.LinkEnd.{LinkEnd}
use Rattle.jl_loads.specs.Ends.{Leaves, Tells}
use Rattle.jl_loads.specs.declared.end.LinkEnd.TheVariants as ends
use Rattle.jl_loads.specs.Worlds.{State, Thrown}
use Rattle.jl_loads.specs.Outcomes.{Outcome, and_then}

module _ {X Y : Type 0} where
  -- an error ends it
  pub leaves_end : (o : Outcome X) (next : State → X → Outcome Y) (e : LinkEnd) (t : State) → Leaves o (Err e) t → Leaves (and_then o next) (Err e) t
  leaves_end o next (ends.Throws kind message) t h = ap (λ (x : Outcome X). and_then x next) h
  leaves_end o next ends.ReadFault t h = tt
  leaves_end o next ends.NoMemory t h = tt

  -- a value goes on
  pub leaves_on : (o : Outcome X) (next : State → X → Outcome Y) (x : X) (t : State) (r : Result Y LinkEnd) (u : State) → Leaves o (Ok x) t → Leaves (next t x) r u → Leaves (and_then o next) r u
  leaves_on o next x t r u h k = subst (λ (z : Outcome Y). Leaves z r u) (sym (ap (λ (y : Outcome X). and_then y next) h)) k

module _ {X : Type 0} where
  -- an error that is told is what it leaves
  pub leaves_told : (o : Outcome X) (e : LinkEnd) (t : State) (x : Thrown) → Tells e x → o ≡ (t, Err x) → Leaves o (Err e) t
  leaves_told o (ends.Throws kind message) t x h k = k ∙ ap (λ (y : Thrown). let z : Outcome X = (t, Err y) in z) h
  leaves_told o ends.ReadFault t x h k = absurd h
  leaves_told o ends.NoMemory t x h k = tt

  pub leaves_as : (o p : Outcome X) (r : Result X LinkEnd) (t : State) → o ≡ p → Leaves p r t → Leaves o r t
  leaves_as o p r t e h = subst (λ (z : Outcome X). Leaves z r t) (sym e) h

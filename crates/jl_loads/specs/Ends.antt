-- What a call of the program answers, beside what its definition gives.
use Rattle.std.specs.Prelude.{◌≡◌, ℕ, List, ◌++◌, Contains, IsSome, option_map, Option, None, Some, Result, Ok, Err, MatchOption, ⊤}
use Rattle.jl_loads.specs.declared.end.LinkEnd.{LinkEnd}
use Rattle.jl_loads.specs.declared.end.LinkEnd.TheVariants as ends
use Rattle.jl_logic.specs.Lists.{AreDistinct}
use Rattle.jl_loads.specs.Loading.{kept_at}
use Rattle.jl_loads.specs.Worlds.{State, Thrown}
use Rattle.jl_loads.specs.Outcomes.{Outcome}

-- what an end tells: the error that is thrown. A failed tree and want of memory tell nothing.
abbrev pub told : LinkEnd → Option Thrown
told (ends.Throws kind message) = Some (record { kind = kind; message = message })
told ends.ReadFault = None
told ends.NoMemory = None

-- the end is this error, or there was no memory for it
abbrev pub Tells : LinkEnd → Thrown → Type 0
Tells (ends.Throws kind message) t = t ≡ record { kind = kind; message = message }
Tells ends.ReadFault t = ⊥
Tells ends.NoMemory t = ⊤

-- the tree did not fail
abbrev pub IsNotRead : LinkEnd → Type 0
IsNotRead (ends.Throws kind message) = ⊤
IsNotRead ends.ReadFault = ⊥
IsNotRead ends.NoMemory = ⊤

-- What a call asked of a tree: paths of which nothing was kept, each once, and all of them are kept then.
pub record Asks (old new : State) (before after : Option (List (List ℕ))) : Type 0 where
  pub more : List (List ℕ)
  pub asked : after ≡ option_map (λ ps. ps ++ more) before
  pub once : AreDistinct more
  pub fresh : (path : List ℕ) → Contains more path → kept_at old path ≡ None
  pub kept : (path : List ℕ) → Contains more path → IsSome (kept_at new path)

-- What a call answered, and the state that it left, are what the definition gives, unless its end tells nothing.
abbrev pub Leaves : {X : Type 0} → Outcome X → Result X LinkEnd → State → Type 0
Leaves outcome (Ok x) s = outcome ≡ (s, Ok x)
Leaves outcome (Err e) s = MatchOption (told e) ⊤ (λ t. outcome ≡ (s, Err t))

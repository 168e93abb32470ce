-- What the answer of a call tells, where some errors tell nothing, as want of memory.
use Rattle.std.specs.Prelude.{◌≡◌, Option, Result, Ok, Err, MatchOption, ⊤}

-- What an error of type E tells of the answer of a definition: the fault, or nothing.
abbrev pub Fails : {Y E F : Type 0} → (E → Option F) → E → Result Y F → Type 0
Fails told e defined = MatchOption (told e) ⊤ (λ f. defined ≡ Err f)

-- What a function of the program returned, seen by view, is what the definition gives, unless its error tells nothing.
abbrev pub Gives : {X Y E F : Type 0} → (E → Option F) → (X → Y) → Result X E → Result Y F → Type 0
Gives told view (Ok x) defined = defined ≡ Ok (view x)
Gives told view (Err e) defined = Fails told e defined

-- What a function of the program returned is what the definition gives, unless its error tells nothing.
abbrev pub Tells : {X E F : Type 0} → (E → Option F) → Result X E → Result X F → Type 0
Tells told result defined = Gives told (λ x. x) result defined

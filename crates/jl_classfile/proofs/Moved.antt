-- A reading that goes on from a later place in the same bytes.
use Rattle.std.proofs.Common.{◌≡◌, ℕ, List, Option, Result, Ok, Err, sym, subst, ◌∙◌}
use Rattle.jl_logic.specs.Answers.{Fails}
use Rattle.jl_classfile.specs.Places.{Reads}
use Rattle.jl_classfile.specs.declared.place.Place.{Place}

pub reads_from : {X Y E F : Type 0} (told : E → Option F) (view : X → Y) (here start : Place) (result : Result (X × Place) E) (rest whole : List ℕ → ℕ → Result (Y × ℕ) F)
    → here.bytes.now ≡ start.bytes.now → whole start.bytes.now start.at ≡ rest start.bytes.now here.at → Reads told view here result rest → Reads told view start result whole
reads_from told view here start (Ok x) rest whole same e r = (r.0 ∙ same, e ∙ subst (λ b. rest b here.at ≡ Ok (view x.0, x.1.at)) same r.1)
reads_from told view here start (Err f) rest whole same e r = subst (λ d. Fails told f d) (sym e) (subst (λ b. Fails told f (rest b here.at)) same r)

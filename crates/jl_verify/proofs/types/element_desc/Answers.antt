use Rattle.std.proofs.Common.{◌≡◌, ℕ, ◌∷◌, [], List, Bool, true, false, None, refl, arith, ap}
use Rattle.std.specs.Prelude.{◌==◌}
use Rattle.std.proofs.lemmas.Bool.{eqb-true}
use Rattle.std.proofs.lemmas.Str.Pattern.{strip_prefix_char}
use Rattle.jl_verify.specs.Moves.{element_desc}
use Rattle.jl_verify.proofs.types.element_desc.Goals as goal

-- what does not begin with a bracket has no elements
no_elements : (desc : List ℕ) → ((rest : List ℕ) → desc ≡ 91 ∷ rest → ⊥) → [] ≡ element_desc desc
no_elements [] none = refl
no_elements (b ∷ bs) none = by (b == 91) refl
  where
    by : (is : Bool) → (b == 91) ≡ is → [] ≡ element_desc (b ∷ bs)
    by true e = absurd (none bs (ap (λ x. x ∷ bs) (eqb-true b 91 e)))
    by false e = rw e refl

pub returns-in-None : goal.returns-in-None
returns-in-None c = no_elements c.args.desc.now (strip_prefix_char 91 c.args.desc.now None (rw c.as_str.ensures at c.in-None.ensures.cases) (omega arith))

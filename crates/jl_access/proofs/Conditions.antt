-- Verdicts condition by condition.
use Rattle.std.proofs.Common.{◌≡◌, List, ◌∷◌, Bool, true, false, if◌then◌else◌, sym, ◌∙◌, ap}
use Rattle.jl_access.specs.declared.verdict.Rule.{Rule}
use Rattle.jl_access.specs.declared.verdict.Verdict.{Verdict}
use Rattle.jl_access.specs.declared.verdict.Verdict.TheVariants.{Denied}
use Rattle.jl_access.specs.Verdicts.{judged}

-- the first condition fails
pub fails : (c : Bool) (r : Rule) (cs : List (Bool × Rule)) → c ≡ false → Denied r ≡ judged ((c, r) ∷ cs)
fails c r cs e = sym (ap (λ b. if b then judged cs else Denied r) e)

-- the first condition holds
pub holds : (c : Bool) (r : Rule) (cs : List (Bool × Rule)) (v : Verdict) → c ≡ true → v ≡ judged cs → v ≡ judged ((c, r) ∷ cs)
holds c r cs v e h = h ∙ sym (ap (λ b. if b then judged cs else Denied r) e)

-- what was asked with an equal text
pub asked : {X : Type 0} (f : X → Bool) (x y : X) (r b : Bool) → r ≡ f x → x ≡ y → r ≡ b → f y ≡ b
asked f x y r b e same g = sym (ap f same) ∙ sym e ∙ g

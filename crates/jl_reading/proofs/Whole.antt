-- What a call answers that reads a whole, where what is read is spelled so, and what is spelled so is read.
use Rattle.std.proofs.Common.{◌≡◌, ◌↔◌, Option, Result, Ok, Err, refl, subst}
use Rattle.std.specs.Prelude.{IfOk}
use Rattle.jl_logic.specs.Answers.{Gives}

module _ {V F : Type 0} (reading : Result V F) (IsSpelled : V → Type 0) where
  -- a value that was read is spelled so
  pub found_in : {X E : Type 0} (told : E → Option F) (view : X → V) (r : Result X E) → ((v : V) → reading ≡ Ok v → IsSpelled v) → Gives told view r reading → IfOk r (λ x. IsSpelled (view x))
  found_in told view (Ok x) stands g = stands (view x) g
  found_in told view (Err e) stands g = tt

  -- nothing else is answered for what is spelled so
  pub only_in : {X E : Type 0} (told : E → Option F) (view : X → V) (r : Result X E) → ((v : V) → IsSpelled v → reading ≡ Ok v) → Gives told view r reading → (v : V) → IsSpelled v → Gives told view r (Ok v)
  only_in told view r reads g v is = subst (λ (d : Result V F). Gives told view r d) (reads v is) g

  not_both : (r : Result V F) (f : F) (v : V) → r ≡ Err f → r ≡ Ok v → ⊥
  not_both (Ok x) f v e g = absurd cc
  not_both (Err x) f v e g = absurd cc

  fault_or : (r : Result V F) → ((v : V) → reading ≡ Ok v → IsSpelled v) → reading ≡ r → ((v : V) → IsSpelled v → ⊥) → (f : F) × (reading ≡ Err f)
  fault_or (Ok v) stands e none = absurd (none v (stands v e))
  fault_or (Err f) stands e none = (f, e)

  -- there is a fault exactly where nothing is spelled so
  pub fault_or_value : ((v : V) → reading ≡ Ok v → IsSpelled v) → ((v : V) → IsSpelled v → reading ≡ Ok v) → ((f : F) × (reading ≡ Err f)) ↔ ((v : V) → IsSpelled v → ⊥)
  fault_or_value stands reads = ((λ f v is. not_both reading f.0 v f.1 (reads v is)), fault_or reading stands refl)

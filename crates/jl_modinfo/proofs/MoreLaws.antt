-- What one call after the other puts behind a list.
use Rattle.std.proofs.Common.{◌≡◌, List, ◌++◌, Result, Ok, Err, append_assoc, ap, ◌∙◌}
use Rattle.std.specs.Prelude.{OnOk}

pub then_more : {X A E : Type 0} (r : Result A E) (new mid old x y : List X) → mid ≡ old ++ x → OnOk r (new ≡ mid ++ y) → OnOk r (new ≡ old ++ (x ++ y))
then_more {X = X} (Ok a) new mid old x y first second = second ∙ (ap (λ (l : List X). l ++ y) first ∙ append_assoc old x y)
then_more (Err e) new mid old x y first second = tt

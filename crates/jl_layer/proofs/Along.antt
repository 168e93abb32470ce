-- A search is the first that is given (`ModuleLayer.findModule`).
use Rattle.std.proofs.Common.{◌≡◌, List, [], ◌∷◌, refl, Some, None, Bool, true, false, cond, find}
use Rattle.std.specs.Option.{option_or}
use Rattle.jl_layer.specs.Layers.{first_given}
use Rattle.jl_layer.specs.Orderly.{if_passes}

pub find_first : {X : Type 0} (p : X → Bool) (xs : List X) → find p xs ≡ first_given (if_passes p) xs
find_first p [] = refl
find_first p (x ∷ xs) = by (p x) (find_first p xs)
  where
    by : (b : Bool) → find p xs ≡ first_given (if_passes p) xs → cond b (Some x) (find p xs) ≡ option_or (cond b (Some x) None) (first_given (if_passes p) xs)
    by true h = refl
    by false h = h

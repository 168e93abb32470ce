-- Items by their numbers, from 1 on.
use Rattle.std.proofs.Common.{◌≡◌, ◌-◌, ◌<◌, ◌≤◌, ℕ, zero, suc, List, [], ◌∷◌, length, get_or, slice_get, sym, ap, subst, ⊎_elim, Some, arith, slice_index_or}
use Rattle.std.proofs.lemmas.Bool.{cases_lt}
use Rattle.std.proofs.lemmas.Option.{slice_get-get_or}
use Rattle.std.proofs.lemmas.List.Elements.{All-nil, All-get_or}
use Rattle.std.proofs.lemmas.List.{get_or_past}
use Rattle.jl_layer.specs.declared.layer.Layer.{Layer}
use Rattle.jl_layer.specs.declared.layer.Member.{Member}
use Rattle.jl_layer.specs.Layers.{numbered, empty_layer}
use Rattle.jl_layer.specs.Orderly.{AreInOrder, AreOrderly}

-- an item that is there
pub numbered_there : {X : Type 0} (xs : List X) (n : ℕ) → 0 < n → n ≤ length xs → (x : X) × (numbered xs n ≡ Some x)
numbered_there xs zero pos le = absurd (omega arith)
numbered_there [] (suc n) pos le = absurd (omega arith)
numbered_there (x ∷ xs) (suc n) pos le = (get_or (x ∷ xs) n x, slice_get-get_or (x ∷ xs) n x (omega arith))

-- one place less than the number
pub numbered_at : {X : Type 0} (xs : List X) (n : ℕ) → 0 < n → slice_get xs (n - 1) ≡ numbered xs n
numbered_at xs zero pos = absurd (omega arith)
numbered_at xs (suc n) pos = let e : suc n - 1 ≡ n = omega arith in ap (slice_get xs) e

-- the modules of each layer are in order, those of none too
pub layer_in_order : (layers : List Layer) (members : List Member) (n : ℕ) → AreOrderly layers members → AreInOrder members (slice_index_or (empty_layer ∷ layers) n empty_layer).modules
layer_in_order layers members zero h = record { there = All-nil _; rise = tt }
layer_in_order layers members (suc n) h = ⊎_elim (λ lt. All-get_or (λ (k : Layer). AreInOrder members k.modules) layers n empty_layer lt h) (λ le. subst (λ (k : Layer). AreInOrder members k.modules) (sym (get_or_past layers n empty_layer le)) (record { there = All-nil _; rise = tt })) (cases_lt n (length layers))

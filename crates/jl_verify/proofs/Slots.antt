-- Items in slots.
use Rattle.std.proofs.Common.{◌≡◌, ℕ, zero, suc, List, [], ◌∷◌, refl}
use Rattle.std.specs.List.{slice_get}
use Rattle.jl_vtypes.specs.declared.item.Item.{Item}
use Rattle.jl_verify.specs.Moves.{item_at, or_top}

-- the item in a slot, by what a list has there
pub at_slot : (all : List Item) (k : ℕ) → or_top (slice_get all k) ≡ item_at all k
at_slot [] zero = refl
at_slot [] (suc k) = refl
at_slot (item ∷ later) zero = refl
at_slot (item ∷ later) (suc k) = at_slot later k

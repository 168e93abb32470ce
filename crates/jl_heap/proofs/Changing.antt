-- What stands at a place is changed.
use Rattle.std.proofs.Common.{◌≡◌, ℕ, List, Some, slice_get, slice_set, refl}
use Rattle.jl_heap.specs.Heap.{changed_at}

pub set_is_change : {X : Type 0} (change : X → X) (xs : List X) (i : ℕ) (x : X) → slice_get xs i ≡ Some x → slice_set xs i (change x) ≡ changed_at i change xs
set_is_change change xs i x e = rw e refl

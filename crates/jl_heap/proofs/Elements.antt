-- What callers say of the slots of an array.
use Rattle.std.proofs.Common.{◌≡◌, ◌<◌, ℕ, zero, suc, replicate, Some, slice_get, refl, arith}
use Rattle.jl_heap.specs.declared.value.Kind.{Kind}

-- each slot is of the elements' kind
pub element_kind_at : (len at : ℕ) (k : Kind) → at < len → slice_get (replicate len k) at ≡ Some k
element_kind_at zero at k lt = absurd (omega arith)
element_kind_at (suc len) zero k lt = refl
element_kind_at (suc len) (suc at) k lt = element_kind_at len at k (omega arith)

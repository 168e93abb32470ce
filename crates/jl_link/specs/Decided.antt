-- The references of which something is decided, in a list (JVMS 5.4.3).
use Rattle.std.specs.Prelude.{◌≡◌, ◌≢◌, ℕ, ◌+◌, List, [], ◌∷◌, ◌++◌, Contains}
use Rattle.std.specs.Ordering.{nat_cmp, ordering_then}
use Rattle.std.specs.declared.cmp.Ordering.{Ordering}
use Rattle.jl_logic.specs.Order.{RisesBy}
use Rattle.jl_prim.specs.declared.numbers.ClassId.{ClassId}
use Rattle.jl_loads.specs.declared.slot.PoolSlot.{PoolSlot}
use Rattle.jl_loads.specs.declared.slot.PoolSlot.TheVariants.{Empty}
use Rattle.jl_loads.specs.Worlds.{State, class_number, slot_at}

-- a class, an index of its pool, and what is decided of the reference there
abbrev pub Decision : Type 0
Decision = ClassId × ℕ × PoolSlot

-- what is decided of one reference, if anything is
abbrev pub decision_at : ClassId → ℕ → PoolSlot → List Decision
decision_at c i Empty = []
decision_at c i x = (c, i, x) ∷ []

-- what is decided of the references of a class, from an index on
unfoldable pub decided_in : ClassId → ℕ → List PoolSlot → List Decision
decided_in c i [] = []
decided_in c i (x ∷ row) = decision_at c i x ++ decided_in c (i + 1) row

-- and of those of all classes, from a place on
unfoldable pub decided_from : ℕ → List (List PoolSlot) → List Decision
decided_from p [] = []
decided_from p (row ∷ rows) = decided_in (class_number p) 0 row ++ decided_from (p + 1) rows

-- All references of which something is decided, with their slots: class by class, and by the indices of each.
abbrev pub decided : State → List Decision
decided s = decided_from 0 s.slots

-- by class, and in one class by index
abbrev pub decision_cmp : Decision → Decision → Ordering
decision_cmp a b = ordering_then (nat_cmp a.0.0 b.0.0) (nat_cmp a.1 b.1)

-- The list has each reference of which something is decided, with its slot, and no others, each once and in order.
pub record DecidedIsListed : Type 0 where
  pub listed : (s : State) (d : ClassId) (i : ℕ) (x : PoolSlot) → slot_at s d i ≡ x → x ≢ Empty → Contains (decided s) (d, i, x)
  pub slot : (s : State) (d : ClassId) (i : ℕ) (x : PoolSlot) → Contains (decided s) (d, i, x) → slot_at s d i ≡ x
  pub filled : (s : State) (d : ClassId) (i : ℕ) (x : PoolSlot) → Contains (decided s) (d, i, x) → x ≢ Empty
  pub rises : (s : State) → RisesBy decision_cmp (decided s)

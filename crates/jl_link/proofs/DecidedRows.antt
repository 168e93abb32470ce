-- Worked rows of the list of what is decided.
use Rattle.std.proofs.Common.{◌≡◌, ℕ, List, [], ◌∷◌, Some, None, refl}
use Rattle.std.specs.Prelude.{codes}
use Rattle.jl_prim.specs.declared.numbers.ClassId.{ClassId}
use Rattle.jl_prim.specs.declared.error_kind.ErrorKind.TheVariants as errors
use Rattle.jl_loads.specs.declared.slot.PoolSlot.{PoolSlot}
use Rattle.jl_loads.specs.declared.slot.PoolSlot.TheVariants.{Empty, Passed, Failed}
use Rattle.jl_loads.specs.declared.slot.Target.TheVariants as targets
use Rattle.jl_loads.specs.Worlds.{State, bare}
use Rattle.jl_layer.specs.Layers as layers
use Rattle.jl_link.specs.Decided.{decided, decided_from, decided_in}

abbrev c : ℕ → ClassId
c n = record { 0 = n }

-- layers with nothing
abbrev no_layers : layers.State
no_layers = record {
  configurations = [];
  layers = [];
  modules = [];
  loaders = record { loaders = []; base = None; constraints = []; spare = 0 };
  facts = record { modules = []; statements = []; spare_modules = 0; spare_statements = 0 };
}

-- with rows of slots
abbrev world : List (List PoolSlot) → State
world rows = record { layers = no_layers; classes = []; report = []; slots = rows; kept = [] }

-- ---- nothing is decided

row_bare : decided (bare no_layers) ≡ []
unfolding decided_from
row_bare = refl

row_blank : decided (world ((Empty ∷ Empty ∷ []) ∷ [] ∷ (Empty ∷ []) ∷ [])) ≡ []
unfolding decided_from decided_in
row_blank = refl

-- ---- slots of all kinds

abbrev passed : PoolSlot
passed = Passed (targets.Class (c 2))

abbrev array : PoolSlot
array = Passed (targets.Array (codes "[I"))

abbrev failed : PoolSlot
failed = Failed errors.NoClassDefFoundError (Some (codes "q.B"))

abbrev silent : PoolSlot
silent = Failed errors.StackOverflowError None

-- one class
row_class : decided (world ((Empty ∷ passed ∷ Empty ∷ failed ∷ []) ∷ [])) ≡ (c 1, 1, passed) ∷ (c 1, 3, failed) ∷ []
unfolding decided_from decided_in
row_class = refl

-- two classes: an index of the second may be lower
row_classes : decided (world ((Empty ∷ Empty ∷ failed ∷ passed ∷ Empty ∷ []) ∷ (silent ∷ Empty ∷ array ∷ []) ∷ [])) ≡ (c 1, 2, failed) ∷ (c 1, 3, passed) ∷ (c 2, 0, silent) ∷ (c 2, 2, array) ∷ []
unfolding decided_from decided_in
row_classes = refl

-- a class with no slots between
row_between : decided (world ((passed ∷ []) ∷ [] ∷ (passed ∷ []) ∷ [])) ≡ (c 1, 0, passed) ∷ (c 3, 0, passed) ∷ []
unfolding decided_from decided_in
row_between = refl

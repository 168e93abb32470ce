-- Modules of a layer in the order of their names: how a name is looked for (`ModuleLayer.findModule`). No public clause cites these.
use Rattle.std.specs.Prelude.{ℕ, ◌<◌, ◌≤◌, List, [], length, Option, None, Some, Bool, All, if◌then◌else◌}
use Rattle.std.specs.Option.{option_map_or}
use Rattle.std.specs.declared.cmp.Ordering.{Ordering}
use Rattle.jl_logic.specs.Order.{name_cmp, RisesBy}
use Rattle.jl_prim.specs.declared.numbers.ModuleId.{ModuleId}
use Rattle.jl_layer.specs.declared.layer.Layer.{Layer}
use Rattle.jl_layer.specs.declared.layer.Member.{Member}
use Rattle.jl_layer.specs.Layers.{numbered}

-- the name of a module; of none it is empty
abbrev pub name_in : Option Member → List ℕ
name_in x = option_map_or (λ (m : Member). m.observed.declaration.name) x []

-- the name of the module with a number
abbrev pub name_at : List Member → ModuleId → List ℕ
name_at members m = name_in (numbered members m.0)

-- modules by their names
abbrev pub by_name : List Member → ModuleId → ModuleId → Ordering
by_name members a b = name_cmp (name_at members a) (name_at members b)

-- one of so many modules
abbrev pub IsWithin : ℕ → ModuleId → Type 0
IsWithin count m = (0 < m.0) × (m.0 ≤ count)

-- modules that are there, in the order of their names
pub record AreInOrder (members : List Member) (numbers : List ModuleId) : Type 0 where
  pub there : All (IsWithin (length members)) numbers
  pub rise : RisesBy (by_name members) numbers

-- those of each layer are
abbrev pub AreOrderly : List Layer → List Member → Type 0
AreOrderly layers members = All (λ (l : Layer). AreInOrder members l.modules) layers

-- the item, where it passes
abbrev pub if_passes : {X : Type 0} → (X → Bool) → X → Option X
if_passes p x = if p x then Some x else None

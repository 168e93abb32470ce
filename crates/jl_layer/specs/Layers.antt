-- Layers of modules (`java.lang.ModuleLayer`, `java.lang.module.Configuration`).
use Rattle.std.specs.Prelude.{ℕ, zero, suc, ◌+◌, ◌<◌, ◌≤◌, List, [], ◌∷◌, length, Option, None, Bool, false, find, slice_get, slice_index_or}
use Rattle.std.specs.Option.{option_or, option_map_or}
use Rattle.std.specs.List.{flat_map}
use Rattle.jl_logic.specs.Order.{is_text}
use Rattle.jl_prim.specs.declared.numbers.ConfigId.{ConfigId}
use Rattle.jl_prim.specs.declared.numbers.LayerId.{LayerId}
use Rattle.jl_prim.specs.declared.numbers.ModuleId.{ModuleId}
use Rattle.jl_prim.specs.declared.declaration.Declaration.{Declaration}
use Rattle.jl_prim.specs.declared.declaration.ParentLoader.TheVariants.{Null}
use Rattle.jl_config.specs.Configurations.{Configuration}
use Rattle.jl_config.specs.Located.{configuration_of}
use Rattle.jl_loaders.specs.Loaders as delegation
use Rattle.jl_access.specs.Facts as access
use Rattle.jl_layer.specs.declared.layer.Layer.{Layer}
use Rattle.jl_layer.specs.declared.layer.Member.{Member}

-- Configurations, layers, modules and loaders have numbers from 1 on, in the order of their lists. Configuration 0 and layer 0 are the empty ones.
pub record State : Type 0 where
  pub configurations : List Configuration
  pub layers : List Layer
  pub modules : List Member
  pub loaders : delegation.State
  pub facts : access.State

-- ---- by number

-- the empty layer
abbrev pub empty_layer : Layer
empty_layer = record { config = record { 0 = 0 }; parents = []; modules = []; parent_loader = Null }

-- the layer with a number
abbrev pub layer_at : State → LayerId → Layer
layer_at s l = slice_index_or (empty_layer ∷ s.layers) l.0 empty_layer

-- the configuration of a layer
abbrev pub configuration_at : State → LayerId → Configuration
configuration_at s l = configuration_of s.configurations (layer_at s l).config

-- the item with a number from 1 on
abbrev pub numbered : {X : Type 0} → List X → ℕ → Option X
numbered xs zero = None
numbered xs (suc n) = slice_get xs n

-- the module with a number
abbrev pub member_of : State → ModuleId → Option Member
member_of s m = numbered s.modules m.0

-- a layer with this number is there, as layer 0 always is
abbrev pub IsLayer : State → LayerId → Type 0
IsLayer s l = l.0 ≤ length s.layers

-- a configuration with this number is there, as configuration 0 always is
abbrev pub IsConfiguration : State → ConfigId → Type 0
IsConfiguration s c = c.0 ≤ length s.configurations

-- a module with this number is there
abbrev pub IsModule : State → ModuleId → Type 0
IsModule s m = (0 < m.0) × (m.0 ≤ length s.modules)

-- ---- by name

-- the declaration of a module
abbrev pub declaration_of : Member → Declaration
declaration_of m = m.observed.declaration

-- the module with this number has the name
abbrev pub has_name : State → List ℕ → ModuleId → Bool
has_name s name m = option_map_or (λ (x : Member). is_text (declaration_of x).name name) (member_of s m) false

-- the module of a layer with a name
abbrev pub named_in : State → LayerId → List ℕ → Option ModuleId
named_in s l name = find (has_name s name) (layer_at s l).modules

-- Layers, each followed by its own parents and theirs, n deep.
unfoldable pub line : ℕ → State → List LayerId → List LayerId
line zero s ls = []
line (suc n) s ls = flat_map (λ (l : LayerId). l ∷ line n s (layer_at s l).parents) ls

-- Layers and those above them, in order and depth first. Parents have lower numbers, so no line is deeper than there are layers.
abbrev pub above : State → List LayerId → List LayerId
above s ls = line (length s.layers + 1) s ls

-- the first that is given for an item
abbrev pub first_given : {X Y : Type 0} → (X → Option Y) → List X → Option Y
first_given f [] = None
first_given f (x ∷ xs) = option_or (f x) (first_given f xs)

-- The module with a name: of the layer, or else of the first above it that has one (`ModuleLayer.findModule`).
abbrev pub find_module : State → LayerId → List ℕ → Option ModuleId
find_module s l name = first_given (λ (k : LayerId). named_in s k name) (above s (l ∷ []))

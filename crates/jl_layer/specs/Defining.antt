-- What a layer adds when it is defined (`ModuleLayer.defineModules`).
use Rattle.std.specs.Prelude.{◌≡◌, ℕ, ◌+◌, List, [], ◌∷◌, ◌++◌, length, map, Option, Some, Bool, false, not, ◌&&◌, ◌==◌, if◌then◌else◌}
use Rattle.std.specs.Option.{option_map_or}
use Rattle.std.specs.List.{flat_map, range_with_len}
use Rattle.jl_prim.specs.declared.numbers.ConfigId.{ConfigId}
use Rattle.jl_prim.specs.declared.numbers.LayerId.{LayerId}
use Rattle.jl_prim.specs.declared.numbers.LoaderId.{LoaderId}
use Rattle.jl_prim.specs.declared.numbers.ModuleId.{ModuleId}
use Rattle.jl_prim.specs.declared.declaration.Observed.{Observed}
use Rattle.jl_prim.specs.declared.declaration.ParentLoader.{ParentLoader}
use Rattle.jl_prim.specs.declared.declaration.ParentLoader.TheVariants.{Null}
use Rattle.jl_config.specs.Located.{configuration_of}
use Rattle.jl_loaders.specs.Loaders as delegation
use Rattle.jl_access.specs.Facts as access
use Rattle.jl_layer.specs.declared.layer.Layer.{Layer}
use Rattle.jl_layer.specs.declared.layer.Member.{Member}
use Rattle.jl_layer.specs.declared.layer.Mode.{Mode}
use Rattle.jl_layer.specs.declared.layer.Mode.TheVariants.{One, Many}
use Rattle.jl_layer.specs.Layers.{State, layer_at, member_of, declaration_of}
use Rattle.jl_layer.specs.Meaning.{reads_of, exported_to, statements_of}

-- the configuration, the parent layers, whether the modules share a loader, and the loader to which theirs turn last
pub record Asked : Type 0 where
  pub config : ConfigId
  pub parents : List LayerId
  pub mode : Mode
  pub parent_loader : ParentLoader

-- the boot layer: one loader, above which there is java.base alone (`ModuleLayer.boot`)
abbrev pub boot : ConfigId → Asked
boot c = record { config = c; parents = record { 0 = 0 } ∷ []; mode = One; parent_loader = Null }

-- the modules of the configuration that is asked for
abbrev pub asked_modules : State → Asked → List Observed
asked_modules s q = (configuration_of s.configurations q.config).modules

-- the number of the next layer
abbrev pub next_layer : State → LayerId
next_layer s = record { 0 = length s.layers + 1 }

-- the number of the next loader
abbrev pub next_loader : State → ℕ
next_loader s = length s.loaders.loaders + 1

-- Modules of a layer: all with the loader of this number, or each with its own, from this number on.
unfoldable pub members : Mode → LayerId → ℕ → List Observed → List Member
members mode layer loader [] = []
members One layer loader (o ∷ os) = record { layer = layer; loader = record { 0 = loader }; observed = o } ∷ members One layer loader os
members Many layer loader (o ∷ os) = record { layer = layer; loader = record { 0 = loader }; observed = o } ∷ members Many layer (loader + 1) os

-- the modules of the new layer
abbrev pub new_members : State → Asked → List Member
new_members s q = members q.mode (next_layer s) (next_loader s) (asked_modules s q)

-- numbers of modules, so many from this one on
abbrev pub module_numbers : ℕ → ℕ → List ModuleId
module_numbers from count = map (λ (n : ℕ). record { 0 = n }) (range_with_len from count)

-- their numbers, which are the next ones
abbrev pub new_numbers : State → Asked → List ModuleId
new_numbers s q = module_numbers (length s.modules + 1) (length (asked_modules s q))

-- How many loaders it has: one for all modules, where there are any, or one for each.
abbrev pub loader_count : Mode → List Observed → ℕ
loader_count mode [] = 0
loader_count One (o ∷ os) = 1
loader_count Many (o ∷ os) = length os + 1

-- numbers of loaders, so many from this one on
abbrev pub loader_numbers : ℕ → ℕ → List LoaderId
loader_numbers from count = map (λ (n : ℕ). record { 0 = n }) (range_with_len from count)

-- their numbers, which are the next ones
abbrev pub new_loaders : State → Asked → List LoaderId
new_loaders s q = loader_numbers (next_loader s) (loader_count q.mode (asked_modules s q))

-- the new layer
abbrev pub new_layer : State → Asked → Layer
new_layer s q = record { config = q.config; parents = q.parents; modules = new_numbers s q; parent_loader = q.parent_loader }

-- with the layer and its modules, which loaders and facts do not know yet
abbrev pub placed : State → Asked → State
placed s q = record {
  configurations = s.configurations;
  layers = s.layers ++ new_layer s q ∷ [];
  modules = s.modules ++ new_members s q;
  loaders = s.loaders;
  facts = s.facts;
}

-- ---- loaders

-- the module is of the loader
abbrev pub is_of : State → LoaderId → ModuleId → Bool
is_of s l m = option_map_or (λ (x : Member). x.loader.0 == l.0) (member_of s m) false

-- names, each with the module
abbrev pub with_module : ModuleId → List (List ℕ) → List (List ℕ × ModuleId)
with_module m names = map (λ (p : List ℕ). (p, m)) names

-- the packages of a module, where there is the module
abbrev pub packages_of : Option Member → List (List ℕ)
packages_of m = option_map_or (λ (x : Member). (declaration_of x).packages) m []

-- the packages of a module, where it is the loader's
abbrev pub own_of : State → LoaderId → ModuleId → List (List ℕ × ModuleId)
own_of s l m = if is_of s l m then with_module m (packages_of (member_of s m)) else []

-- the packages that one module exports to another
abbrev pub exported_by : Option Member → Option Member → List (List ℕ)
exported_by (Some x) (Some y) = exported_to (declaration_of x) (declaration_of y).name
exported_by _ _ = []

-- The packages that a read gives to a module of the loader, by a module of another. Those of its own modules it has already.
abbrev pub seen_of : State → LoaderId → ModuleId × ModuleId → List (List ℕ × ModuleId)
seen_of s l r = if is_of s l r.0 && not (is_of s l r.1) then with_module r.1 (exported_by (member_of s r.1) (member_of s r.0)) else []

-- What a loader of a layer is made of: the packages of its modules, and those that modules of other loaders export to them.
abbrev pub parts_of : State → LayerId → LoaderId → delegation.Parts
parts_of s k l = record {
  own = flat_map (own_of s l) (layer_at s k).modules;
  seen = flat_map (seen_of s l) (reads_of s k);
  parent = (layer_at s k).parent_loader;
}

-- ---- the new state

-- a module, as facts know it
abbrev pub declared_module : Member → access.Declared
declared_module m = record { is_open = (declaration_of m).is_open; packages = (declaration_of m).packages }

-- The layer is defined: its modules and loaders have the next numbers, and what it states is added.
pub record IsDefined (old : State) (q : Asked) (new : State) : Type 0 where
  pub configurations : new.configurations ≡ old.configurations
  pub layers : new.layers ≡ (placed old q).layers
  pub modules : new.modules ≡ (placed old q).modules
  pub loaders : new.loaders.loaders ≡ old.loaders.loaders ++ map (parts_of (placed old q) (next_layer old)) (new_loaders old q)
  pub constraints : new.loaders.constraints ≡ old.loaders.constraints
  pub facts : new.facts.modules ≡ old.facts.modules ++ map declared_module (new_members old q)
  pub statements : new.facts.statements ≡ old.facts.statements ++ statements_of (placed old q) (next_layer old)

-- the same but for room, of which nothing is said
pub record IsAsBefore (old new : State) : Type 0 where
  pub configurations : new.configurations ≡ old.configurations
  pub layers : new.layers ≡ old.layers
  pub modules : new.modules ≡ old.modules
  pub loaders : new.loaders.loaders ≡ old.loaders.loaders
  pub base : new.loaders.base ≡ old.loaders.base
  pub constraints : new.loaders.constraints ≡ old.loaders.constraints
  pub facts : access.IsAsBefore old.facts new.facts

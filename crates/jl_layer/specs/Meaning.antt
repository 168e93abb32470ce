-- What the modules of a layer read, export, open and use, by their declarations and the configuration (JLS 7.7; `Configuration`, `ModuleLayer`).
use Rattle.std.specs.Prelude.{ℕ, List, [], ◌∷◌, ◌++◌, map, Option, None, Some, Bool, true, find, if◌then◌else◌}
use Rattle.std.specs.Option.{option_and_then, option_zip}
use Rattle.std.specs.List.{filter_map, flat_map, list_any}
use Rattle.jl_logic.specs.Order.{is_text}
use Rattle.jl_prim.specs.declared.numbers.ConfigId.{ConfigId}
use Rattle.jl_prim.specs.declared.numbers.LayerId.{LayerId}
use Rattle.jl_prim.specs.declared.numbers.ModuleId.{ModuleId}
use Rattle.jl_prim.specs.declared.declaration.Declaration.{Declaration}
use Rattle.jl_prim.specs.declared.declaration.Grant.{Grant}
use Rattle.jl_config.specs.declared.configuration.Read.{Read}
use Rattle.jl_config.specs.Located.{is_numbered}
use Rattle.jl_access.specs.declared.statement.Reach.{Reach}
use Rattle.jl_access.specs.declared.statement.Reach.TheVariants.{All, To, Nobody}
use Rattle.jl_access.specs.declared.statement.Statement.{Statement}
use Rattle.jl_access.specs.declared.statement.Statement.TheVariants.{Reads, Exports, Opens, Uses}
use Rattle.jl_layer.specs.declared.layer.Member.{Member}
use Rattle.jl_layer.specs.Layers.{State, layer_at, configuration_at, member_of, declaration_of, named_in, above, find_module}

-- ---- reads

-- the layer is one of this configuration
abbrev pub is_layer_of : State → ConfigId → LayerId → Bool
is_layer_of s c l = is_numbered (layer_at s l).config c

-- The module that a configuration's module is, above some layers: the one of its name in the first layer of this configuration, in order and depth first.
abbrev pub meant_above : State → List LayerId → ConfigId → List ℕ → Option ModuleId
meant_above s ls c name = option_and_then (λ (l : LayerId). named_in s l name) (find (is_layer_of s c) (above s ls))

-- The module that a read of a layer means: one of the layer where it is of the layer's own configuration, and else one above it.
abbrev pub read_module : State → LayerId → Read → Option ModuleId
read_module s l r = if is_numbered r.config (layer_at s l).config then named_in s l r.name else meant_above s (layer_at s l).parents r.config r.name

-- a read of a layer, as its two modules
abbrev pub read_pair : State → LayerId → Read → Option (ModuleId × ModuleId)
read_pair s l r = option_zip (named_in s l r.reader) (read_module s l r)

-- which module of a layer reads which, in the order of the configuration
abbrev pub reads_of : State → LayerId → List (ModuleId × ModuleId)
reads_of s l = filter_map (read_pair s l) (configuration_at s l).reads

-- ---- exports and opens

-- the grant reaches modules with this name
abbrev pub reaches_name : Option (List (List ℕ)) → List ℕ → Bool
reaches_name None name = true
reaches_name (Some names) name = list_any (λ (n : List ℕ). is_text n name) names

-- the package of a grant that reaches modules with this name
abbrev pub reaching : List ℕ → Grant → Option (List ℕ)
reaching name g = if reaches_name g.to name then Some g.«package» else None

-- the packages that a declaration exports to modules with this name
abbrev pub exported_to : Declaration → List ℕ → List (List ℕ)
exported_to d name = filter_map (reaching name) d.exports

-- that module, or nobody where there is none
abbrev pub reach_found : Option ModuleId → Reach
reach_found None = Nobody
reach_found (Some m) = To m

-- the module that is found in the layer by a name
abbrev pub reach_named : State → LayerId → List ℕ → Reach
reach_named s l name = reach_found (find_module s l name)

-- all modules
abbrev pub to_all : List Reach
to_all = All ∷ []

-- Whom a grant of a layer's module reaches: all, or each that is named, by the module that is found in the layer.
abbrev pub reaches : State → LayerId → Option (List (List ℕ)) → List Reach
reaches s l None = to_all
reaches s l (Some names) = map (reach_named s l) names

-- ---- statements

-- that a module exports a package
abbrev pub export : ModuleId → List ℕ → Reach → Statement
export m p to = Exports m p to

-- that a module opens a package
abbrev pub opening : ModuleId → List ℕ → Reach → Statement
opening m p to = Opens m p to

-- that a module exports the package of a grant
abbrev pub exports_by : State → LayerId → ModuleId → Grant → List Statement
exports_by s l m g = map (export m g.«package») (reaches s l g.to)

-- that a module opens the package of a grant
abbrev pub opens_by : State → LayerId → ModuleId → Grant → List Statement
opens_by s l m g = map (opening m g.«package») (reaches s l g.to)

-- that a module uses a service
abbrev pub use_of : ModuleId → List ℕ → Statement
use_of m service = Uses m service

-- that a module uses services
abbrev pub uses_by : ModuleId → List (List ℕ) → List Statement
uses_by m services = map (use_of m) services

-- what a module's declaration states: its exports, its opens, and the services that it uses
abbrev pub stated_by : State → LayerId → ModuleId → Declaration → List Statement
stated_by s l m d = flat_map (exports_by s l m) d.exports ++ flat_map (opens_by s l m) d.opens ++ uses_by m d.uses

-- what a module of a layer states
abbrev pub stated_of : State → LayerId → ModuleId → Option Member → List Statement
stated_of s l m None = []
stated_of s l m (Some x) = stated_by s l m (declaration_of x)

-- what a module of a layer states, by its number
abbrev pub stated_in : State → LayerId → ModuleId → List Statement
stated_in s l m = stated_of s l m (member_of s m)

-- that the first of two modules reads the second
abbrev pub stated_read : ModuleId × ModuleId → Statement
stated_read x = Reads x.0 x.1

-- What a layer states: which of its modules reads which, and then what each declares.
abbrev pub statements_of : State → LayerId → List Statement
statements_of s l = map stated_read (reads_of s l) ++ flat_map (stated_in s l) (layer_at s l).modules

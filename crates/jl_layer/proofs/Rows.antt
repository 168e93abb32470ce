-- Worked rows of the definitions.
use Rattle.std.proofs.Common.{◌≡◌, ℕ, List, [], ◌∷◌, Option, Some, None, false, refl, map}
use Rattle.std.specs.Prelude.{codes}
use Rattle.jl_prim.specs.declared.numbers.ConfigId.{ConfigId}
use Rattle.jl_prim.specs.declared.numbers.LayerId.{LayerId}
use Rattle.jl_prim.specs.declared.numbers.LoaderId.{LoaderId}
use Rattle.jl_prim.specs.declared.numbers.ModuleId.{ModuleId}
use Rattle.jl_prim.specs.declared.declaration.Declaration.{Declaration}
use Rattle.jl_prim.specs.declared.declaration.Grant.{Grant}
use Rattle.jl_prim.specs.declared.declaration.Observed.{Observed}
use Rattle.jl_prim.specs.declared.declaration.ParentLoader.TheVariants.{Null, Loader}
use Rattle.jl_config.specs.Configurations.{Configuration}
use Rattle.jl_config.specs.declared.configuration.Read.{Read}
use Rattle.jl_access.specs.declared.statement.Reach.TheVariants.{All, To, Nobody}
use Rattle.jl_access.specs.declared.statement.Statement.TheVariants.{Reads, Exports}
use Rattle.jl_layer.specs.declared.layer.Layer.{Layer}
use Rattle.jl_layer.specs.declared.layer.Mode.TheVariants.{Many}
use Rattle.jl_layer.specs.Layers.{State, line, find_module, above}
use Rattle.jl_layer.specs.Meaning.{reads_of, statements_of}
use Rattle.jl_layer.specs.Defining.{Asked, boot, placed, members, new_loaders, parts_of}

abbrev m : ℕ → ModuleId
m n = record { 0 = n }

abbrev layer : ℕ → LayerId
layer n = record { 0 = n }

abbrev config : ℕ → ConfigId
config n = record { 0 = n }

abbrev loader : ℕ → LoaderId
loader n = record { 0 = n }

-- a package that is exported to all, or to those that are named
abbrev grant : List ℕ → Option (List (List ℕ)) → Grant
grant p to = record { «package» = p; to = to }

-- a module with packages, some of which it exports
abbrev declaration : List ℕ → List (List ℕ) → List Grant → Declaration
declaration name packages exports = record { name = name; is_open = false; version = None; required = []; exports = exports; opens = []; uses = []; provides = []; packages = packages; main = None }

abbrev observed : List ℕ → List (List ℕ) → List Grant → Observed
observed name packages exports = record { declaration = declaration name packages exports; place = name }

abbrev read : List ℕ → ℕ → List ℕ → Read
read reader c name = record { reader = reader; config = config c; name = name }

abbrev configuration : ℕ → List ConfigId → List Observed → List Read → Configuration
configuration n parents modules reads = record { id = config n; parents = parents; modules = modules; reads = reads }

-- ---- a boot layer of java.base, lib, which exports its package to app and to nobody, and app

abbrev lib : Observed
lib = observed (codes "lib") (codes "l" ∷ []) (grant (codes "l") (Some (codes "app" ∷ codes "no" ∷ [])) ∷ [])

abbrev app : Observed
app = observed (codes "app") (codes "a" ∷ []) []

abbrev base : Observed
base = observed (codes "java.base") (codes "java/lang" ∷ []) (grant (codes "java/lang") None ∷ [])

abbrev boot_configuration : Configuration
boot_configuration = configuration 1 (config 0 ∷ []) (app ∷ base ∷ lib ∷ []) (read (codes "app") 1 (codes "lib") ∷ read (codes "lib") 1 (codes "java.base") ∷ [])

-- a module in a layer of its own, which reads lib and itself
abbrev plug : Observed
plug = observed (codes "plug") (codes "p" ∷ []) []

abbrev plug_configuration : Configuration
plug_configuration = configuration 2 (config 1 ∷ []) (plug ∷ []) (read (codes "plug") 1 (codes "lib") ∷ read (codes "plug") 2 (codes "plug") ∷ [])

abbrev start : State
start = record {
  configurations = boot_configuration ∷ plug_configuration ∷ [];
  layers = [];
  modules = [];
  loaders = record { loaders = []; base = None; constraints = []; spare = 0 };
  facts = record { modules = []; statements = []; spare_modules = 0; spare_statements = 0 };
}

abbrev booted : State
booted = placed start (boot (config 1))

-- its modules stand in the order of their names
boot_finds : find_module booted (layer 1) (codes "lib") ≡ Some (m 3)
unfolding members line
boot_finds = refl

boot_lacks : find_module booted (layer 1) (codes "plug") ≡ None
unfolding members line
boot_lacks = refl

boot_states : statements_of booted (layer 1)
    ≡ Reads (m 1) (m 3) ∷ Reads (m 3) (m 2) ∷ Exports (m 2) (codes "java/lang") All
    ∷ Exports (m 3) (codes "l") (To (m 1)) ∷ Exports (m 3) (codes "l") Nobody ∷ []
unfolding members line
boot_states = refl

-- one loader has all packages, and sees none
boot_parts : map (parts_of booted (layer 1)) (new_loaders start (boot (config 1)))
    ≡ record { own = (codes "a", m 1) ∷ (codes "java/lang", m 2) ∷ (codes "l", m 3) ∷ []; seen = []; parent = Null } ∷ []
unfolding members line
boot_parts = refl

-- ---- a layer over it, whose one module reads lib, which exports nothing to it

abbrev plug_asked : Asked
plug_asked = record { config = config 2; parents = layer 1 ∷ []; mode = Many; parent_loader = Loader (loader 1) }

abbrev plugged : State
plugged = placed booted plug_asked

plug_finds : find_module plugged (layer 2) (codes "plug") ≡ Some (m 4)
unfolding members line
plug_finds = refl

plug_finds_above : find_module plugged (layer 2) (codes "lib") ≡ Some (m 3)
unfolding members line
plug_finds_above = refl

plug_reads : reads_of plugged (layer 2) ≡ (m 4, m 3) ∷ (m 4, m 4) ∷ []
unfolding members line
plug_reads = refl

plug_parts : parts_of plugged (layer 2) (loader 1) ≡ record { own = (codes "p", m 4) ∷ []; seen = []; parent = Loader (loader 1) }
unfolding members line
plug_parts = refl

-- ---- a diamond of parents: layer 4 over 2 and 3, both over 1

abbrev bare : List LayerId → Layer
bare parents = record { config = config 0; parents = parents; modules = []; parent_loader = Null }

abbrev diamond : State
diamond = record {
  configurations = [];
  layers = bare (layer 0 ∷ []) ∷ bare (layer 1 ∷ []) ∷ bare (layer 1 ∷ []) ∷ bare (layer 3 ∷ layer 2 ∷ []) ∷ [];
  modules = [];
  loaders = record { loaders = []; base = None; constraints = []; spare = 0 };
  facts = record { modules = []; statements = []; spare_modules = 0; spare_statements = 0 };
}

depth_first : above diamond (layer 4 ∷ []) ≡ layer 4 ∷ layer 3 ∷ layer 1 ∷ layer 0 ∷ layer 2 ∷ layer 1 ∷ layer 0 ∷ []
unfolding line
depth_first = refl

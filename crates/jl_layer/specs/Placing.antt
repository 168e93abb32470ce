-- How a layer is placed, and taken back where there is no memory for what it adds (`ModuleLayer.defineModules`). No public clause cites these.
use Rattle.std.specs.Prelude.{◌≡◌, ℕ, ◌+◌, ◌≤◌, List, [], ◌++◌, length, map, take, drop, All, Contains}
use Rattle.jl_prim.specs.declared.declaration.Observed.{Observed}
use Rattle.jl_prim.specs.declared.numbers.LayerId.{LayerId}
use Rattle.jl_loaders.specs.Loaders as delegation
use Rattle.jl_access.specs.Facts as access
use Rattle.jl_access.specs.declared.statement.Statement.{Statement}
use Rattle.jl_layer.specs.declared.layer.Mode.{Mode}
use Rattle.jl_layer.specs.declared.layer.Mode.TheVariants.{One, Many}
use Rattle.jl_layer.specs.declared.placing.Added.{Added}
use Rattle.jl_layer.specs.declared.placing.Outline.{Outline}
use Rattle.jl_layer.specs.Layers.{State}
use Rattle.jl_layer.specs.Defining.{Asked, asked_modules, next_layer, next_loader, loader_count, placed, parts_of, loader_numbers, declared_module}
use Rattle.jl_layer.specs.Meaning.{statements_of}
use Rattle.jl_layer.specs.Keeping.{AreAmong}

-- which of the new loaders is that of the module at a place
abbrev pub loader_place : Mode → ℕ → ℕ
loader_place One at = 0
loader_place Many at = at

-- only so many layers and modules
abbrev pub shortened : ℕ → ℕ → State → State
shortened layers modules s = record { configurations = s.configurations; layers = take layers s.layers; modules = take modules s.modules; loaders = s.loaders; facts = s.facts }

-- a module, as facts know it
abbrev pub outlined : Outline → access.Declared
outlined o = record { is_open = o.is_open; packages = o.packages }

-- the statement may be added to facts with these modules
abbrev pub IsStatableIn : List access.Declared → Statement → Type 0
IsStatableIn modules x = access.IsStatable (record { modules = modules; statements = []; spare_modules = 0; spare_statements = 0 }) x

-- what a layer adds to loaders and facts: the parts of so many loaders from the first on, the modules behind so many, and what it states
pub record IsAdded (s : State) (l : LayerId) (first count from : ℕ) (a : Added) : Type 0 where
  pub loaders : a.loaders.items ≡ map (parts_of s l) (loader_numbers first count)
  pub modules : map outlined a.modules.items ≡ map declared_module (drop from s.modules)
  pub statements : a.statements.items ≡ statements_of s l

-- what the next layer adds
abbrev pub IsAddedBy : State → Asked → Added → Type 0
IsAddedBy s q = IsAdded (placed s q) (next_layer s) (next_loader s) (loader_count q.mode (asked_modules s q)) (length s.modules)

-- there is room for all of it
pub record HasRoom (a : Added) (s : State) : Type 0 where
  pub loaders : length a.loaders.items ≤ s.loaders.spare
  pub modules : length a.modules.items ≤ s.facts.spare_modules
  pub statements : length a.statements.items ≤ s.facts.spare_statements

-- it comes behind what there is
pub record TakesIn (a : Added) (old new : State) : Type 0 where
  pub configurations : new.configurations ≡ old.configurations
  pub layers : new.layers ≡ old.layers
  pub modules : new.modules ≡ old.modules
  pub loaders : new.loaders.loaders ≡ old.loaders.loaders ++ a.loaders.items
  pub base : new.loaders.base ≡ old.loaders.base
  pub constraints : new.loaders.constraints ≡ old.loaders.constraints
  pub facts : new.facts.modules ≡ old.facts.modules ++ map outlined a.modules.items
  pub statements : new.facts.statements ≡ old.facts.statements ++ a.statements.items

-- the parents are there, and the statements are of modules that are
pub record IsFitting (a : Added) (s : State) : Type 0 where
  pub parents : All (λ (p : delegation.Parts). delegation.ParentExists s.loaders p.parent) a.loaders.items
  pub numbers : length s.loaders.loaders + length a.loaders.items ≤ 4294967295
  pub modules : length s.facts.modules + length a.modules.items ≤ 4294967295
  pub statements : All (IsStatableIn (s.facts.modules ++ map outlined a.modules.items)) a.statements.items

-- The modules of a configuration export and open packages of their own.
pub record AreGranting (os : List Observed) : Type 0 where
  pub exports : (o : Observed) → Contains os o → AreAmong o.declaration.packages o.declaration.exports
  pub opens : (o : Observed) → Contains os o → AreAmong o.declaration.packages o.declaration.opens

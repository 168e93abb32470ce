-- Which configurations may be kept: those that a resolution over the kept ones can give (`Configuration.resolve`).
use Rattle.std.specs.Prelude.{◌≡◌, ◌≢◌, ℕ, zero, suc, ◌+◌, ◌<◌, ◌≤◌, List, [], ◌∷◌, ◌++◌, length, Contains, All, ◌⊎◌}
use Rattle.jl_prim.specs.declared.numbers.ConfigId.{ConfigId}
use Rattle.jl_prim.specs.declared.declaration.Observed.{Observed}
use Rattle.jl_prim.specs.declared.declaration.Grant.{Grant}
use Rattle.jl_prim.specs.Limits.{most_modules}
use Rattle.jl_config.specs.declared.configuration.Read.{Read}
use Rattle.jl_config.specs.Configurations.{Configuration}
use Rattle.jl_config.specs.Located.{configuration_of, name_of}
use Rattle.jl_layer.specs.Meaning.{exported_to}

-- a parent of one of these, n steps above it
abbrev pub IsAboveBy : ℕ → List Configuration → List ConfigId → ConfigId → Type 0
IsAboveBy zero known ps c = Contains ps c
IsAboveBy (suc n) known ps c = (d : ConfigId) × Contains ps d × IsAboveBy n known (configuration_of known d).parents c

-- one of these, or one above them
abbrev pub IsAbove : List Configuration → List ConfigId → ConfigId → Type 0
IsAbove known ps c = (n : ℕ) × IsAboveBy n known ps c

-- the configuration has a module of this name
abbrev pub HasModule : Configuration → List ℕ → Observed → Type 0
HasModule g name o = Contains g.modules o × (name_of o ≡ name)

-- the module that an entry of a new configuration reads: one of its own, or one of a kept configuration above it
abbrev pub ReadsModule : List Configuration → Configuration → Read → Observed → Type 0
ReadsModule known g r o = ((r.config ≡ g.id) × HasModule g r.name o)
    ⊎ (IsAbove known g.parents r.config × HasModule (configuration_of known r.config) r.name o)

-- a module of the configuration reads one that exports the package to it
abbrev pub Gets : List Configuration → Configuration → List ℕ → Read → List ℕ → Type 0
Gets known g reader r p = Contains g.reads r × (r.reader ≡ reader) × (o : Observed) × ReadsModule known g r o × Contains (exported_to o.declaration reader) p

-- the packages of grants are among these
abbrev pub AreAmong : List (List ℕ) → List Grant → Type 0
AreAmong packages gs = All (λ (g : Grant). Contains packages g.«package») gs

-- A configuration that may be kept behind these.
pub record IsKeepable (known : List Configuration) (g : Configuration) : Type 0 where
  pub few : length known < most_modules
  pub few_modules : length g.modules ≤ most_modules
  pub number : g.id ≡ record { 0 = length known + 1 }
  pub parents : All (λ (p : ConfigId). p.0 ≤ length known) g.parents
  -- each entry is of a module, and reads one
  pub readers : (r : Read) → Contains g.reads r → (o : Observed) × HasModule g r.reader o
  pub targets : (r : Read) → Contains g.reads r → (o : Observed) × ReadsModule known g r o
  -- what is exported or opened is a package of the module
  pub exports : (o : Observed) → Contains g.modules o → AreAmong o.declaration.packages o.declaration.exports
  pub opens : (o : Observed) → Contains g.modules o → AreAmong o.declaration.packages o.declaration.opens
  -- no module reads two of one name
  pub same_name : (r t : Read) → Contains g.reads r → Contains g.reads t → r.reader ≡ t.reader → r.name ≡ t.name → r.config ≡ t.config
  -- a module reads itself, so it reads no other of its name
  pub own_name : (r : Read) → Contains g.reads r → r.name ≡ r.reader → r.config ≡ g.id
  -- no module gets a package from two others
  pub same_package : (reader p : List ℕ) (r t : Read) → Gets known g reader r p → Gets known g reader t p → r.name ≢ reader → t.name ≢ reader → r.name ≡ t.name
  -- no module gets a package of its own from another
  pub own_package : (p : List ℕ) (o : Observed) (r : Read) → Contains g.modules o → Contains o.declaration.packages p → Gets known g (name_of o) r p → r.name ≡ name_of o

-- every configuration may be kept behind those before it
unfoldable pub AreKept : List Configuration → List Configuration → Type 0
AreKept before [] = Unit {0}
AreKept before (g ∷ gs) = IsKeepable before g × AreKept (before ++ g ∷ []) gs

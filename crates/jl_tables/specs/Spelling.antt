-- The spelling of the tables of a declaration: relations between their bytes and entries (JVMS 4.7.25).
use Rattle.std.specs.Prelude.{◌≡◌, ℕ, ◌<◌, List, [], ◌++◌, length, Option, Some}
use Rattle.jl_logic.specs.Lists.{AreDistinct, Match}
use Rattle.jl_reading.specs.Reading.{two, counted}
use Rattle.jl_prim.specs.declared.declaration.Requires.{Requires}
use Rattle.jl_prim.specs.declared.declaration.Grant.{Grant}
use Rattle.jl_prim.specs.declared.declaration.Provides.{Provides}
use Rattle.jl_pool.specs.declared.entry.Entry.{Entry}
use Rattle.jl_pool.specs.Pool.{class_named}
use Rattle.jl_classfile.specs.Spelling.{HasName}
use Rattle.jl_tables.specs.Meaning.{module_named, package_named, version_named, is_set, targets_of}

-- an entry of the requires table
pub record RequiresRow : Type 0 where
  pub index : ℕ
  pub flags : ℕ
  pub version : ℕ

-- an entry of the exports or opens table
pub record GrantRow : Type 0 where
  pub index : ℕ
  pub flags : ℕ
  pub targets : List ℕ

-- an entry of the provides table
pub record ProvidesRow : Type 0 where
  pub index : ℕ
  pub classes : List ℕ

-- ---- their bytes

abbrev pub requires_bytes : RequiresRow → List ℕ
requires_bytes r = two r.index ++ (two r.flags ++ two r.version)

abbrev pub grant_bytes : GrantRow → List ℕ
grant_bytes g = two g.index ++ (two g.flags ++ counted two g.targets)

abbrev pub provides_bytes : ProvidesRow → List ℕ
provides_bytes p = two p.index ++ counted two p.classes

-- ---- what they declare

-- an index of two bytes has this name
abbrev pub Names : (List Entry → ℕ → Option (List ℕ)) → List Entry → ℕ → List ℕ → Type 0
Names named pool i name = HasName (named pool) i name

-- indices have these names, each once
pub record NameAll (named : List Entry → ℕ → Option (List ℕ)) (pool : List Entry) (is : List ℕ) (names : List (List ℕ)) : Type 0 where
  pub few : length is < 65536
  pub each : Match (Names named pool) is names
  pub distinct : AreDistinct names

pub record IsRequires (pool : List Entry) (r : RequiresRow) (e : Requires) : Type 0 where
  pub fits : (r.flags < 65536) × (r.version < 65536)
  pub named : Names module_named pool r.index e.name
  pub version : (v : Option (List ℕ)) × (version_named pool r.version ≡ Some v)
  pub transitive : e.transitive ≡ is_set r.flags 0x20
  pub is_static : e.is_static ≡ is_set r.flags 0x40

pub record IsGrant (pool : List Entry) (r : GrantRow) (e : Grant) : Type 0 where
  pub fits : r.flags < 65536
  pub named : Names package_named pool r.index e.«package»
  pub targets : List (List ℕ)
  pub to : e.to ≡ targets_of targets
  pub all : NameAll module_named pool r.targets targets

pub record IsProvides (pool : List Entry) (r : ProvidesRow) (e : Provides) : Type 0 where
  pub named : Names class_named pool r.index e.service
  pub all : NameAll class_named pool r.classes e.implementations
  pub some : r.classes ≡ [] → ⊥

-- The spelling of a declaration file: a relation between its bytes and a declaration (JVMS 4.1, 4.7.25 to 4.7.27).
use Rattle.std.specs.Prelude.{◌≡◌, ℕ, ◌<◌, List, [], ◌∷◌, ◌++◌, length, Option, None, Some, IsTrue, true, codes, ◌⊎◌}
use Rattle.jl_logic.specs.Order.{is_text}
use Rattle.jl_reading.specs.Reading.{Stands, two, counted}
use Rattle.jl_prim.specs.declared.declaration.Requires.{Requires}
use Rattle.jl_prim.specs.declared.declaration.Grant.{Grant}
use Rattle.jl_prim.specs.declared.declaration.Provides.{Provides}
use Rattle.jl_prim.specs.declared.declaration.Declaration.{Declaration}
use Rattle.jl_pool.specs.declared.entry.Entry.{Entry}
use Rattle.jl_pool.specs.Pool.{class_named}
use Rattle.jl_pool.specs.Spelling.{StandsPool}
use Rattle.jl_classfile.specs.Front.{is_version, front_bytes}
use Rattle.jl_classfile.specs.Spelling.{Attribute, attribute_bytes, AreAttributes, IsTable}
use Rattle.jl_classfile.specs.Spelling as framing
use Rattle.jl_tables.specs.Meaning.{module_named, package_named, version_named, is_set}
use Rattle.jl_modinfo.specs.Meaning.{class_text}
use Rattle.jl_modinfo.specs.Rules.{keeps_base_rule, missing_package}
use Rattle.jl_tables.specs.Spelling.{RequiresRow, GrantRow, ProvidesRow, requires_bytes, grant_bytes, provides_bytes, Names, NameAll, IsRequires, IsGrant, IsProvides}

-- ---- the parts of a file, by numbers

-- a Module attribute
pub record Body : Type 0 where
  pub index : ℕ
  pub flags : ℕ
  pub version : ℕ
  pub required : List RequiresRow
  pub exports : List GrantRow
  pub opens : List GrantRow
  pub uses : List ℕ
  pub provides : List ProvidesRow

-- ---- their bytes

-- the content of a Module attribute
abbrev pub body_bytes : Body → List ℕ
body_bytes b =
    two b.index ++ (two b.flags ++ (two b.version ++ (counted requires_bytes b.required ++ (counted grant_bytes b.exports
    ++ (counted grant_bytes b.opens ++ (counted two b.uses ++ counted provides_bytes b.provides))))))

-- from the flags of the file to its end: an empty class with its attributes
abbrev pub back_bytes : ℕ → List Attribute → List ℕ
back_bytes this attributes =
    two 0x8000 ++ (two this ++ (two 0 ++ (two 0 ++ (two 0 ++ (two 0 ++ counted attribute_bytes attributes)))))

-- ---- what they declare

-- a Module attribute declares these parts
pub record IsBody (pool : List Entry) (b : Body) (d : Declaration) : Type 0 where
  pub fits : (b.flags < 65536) × (b.version < 65536)
  pub name : Names module_named pool b.index d.name
  pub is_open : d.is_open ≡ is_set b.flags 0x20
  pub version : version_named pool b.version ≡ Some d.version
  pub required : IsTable (IsRequires pool) (λ (e : Requires). e.name) b.required d.required
  pub exports : IsTable (IsGrant pool) (λ (e : Grant). e.«package») b.exports d.exports
  pub opens : IsTable (IsGrant pool) (λ (e : Grant). e.«package») b.opens d.opens
  pub closed : d.is_open ≡ true → d.opens ≡ []
  pub uses : NameAll class_named pool b.uses d.uses
  pub provides : IsTable (IsProvides pool) (λ (e : Provides). e.service) b.provides d.provides

-- ---- attributes

-- the contents of the attributes of a name
abbrev pub contents : List Entry → List ℕ → List Attribute → List (List ℕ)
contents pool name attributes = framing.contents pool (λ text. is_text text name) attributes

-- The packages are listed by at most one attribute, and else those that were found.
abbrev pub ArePackages : List Entry → List Attribute → List (List ℕ) → List (List ℕ) → Type 0
ArePackages pool attributes found packages =
    ((contents pool (codes "ModulePackages") attributes ≡ []) × (packages ≡ found))
    ⊎ ((is : List ℕ) × (contents pool (codes "ModulePackages") attributes ≡ counted two is ∷ []) × NameAll package_named pool is packages)

-- The main class is named by at most one attribute.
abbrev pub IsMain : List Entry → List Attribute → Option (List ℕ) → Type 0
IsMain pool attributes None = contents pool (codes "ModuleMainClass") attributes ≡ []
IsMain pool attributes (Some class) = (i : ℕ) × (contents pool (codes "ModuleMainClass") attributes ≡ two i ∷ []) × Names class_named pool i class

-- ---- the whole file

-- The bytes are a declaration file that declares d, where found is the packages to take.
pub record IsInfo (bytes : List ℕ) (found : List (List ℕ)) (d : Declaration) : Type 0 where
  pub minor : ℕ
  pub major : ℕ
  pub pool : List Entry
  pub pool_end : ℕ
  pub this : ℕ
  pub attributes : List Attribute
  pub body : Body
  pub numbers : (minor < 65536) × (this < 65536)
  pub front : Stands bytes 0 (front_bytes major minor) 8
  pub version : IsTrue (is_version major minor)
  pub pool_stands : StandsPool bytes 8 pool pool_end
  pub back : Stands bytes pool_end (back_bytes this attributes) (length bytes)
  pub this_named : class_text pool this ≡ Some (codes "module-info")
  pub are : AreAttributes pool attributes
  pub module_there : contents pool (codes "Module") attributes ≡ body_bytes body ∷ []
  pub declares : IsBody pool body d
  pub packages : ArePackages pool attributes found d.packages
  pub main : IsMain pool attributes d.main
  pub base : IsTrue (keeps_base_rule d.name d.required)
  pub none_missing : missing_package d ≡ None

-- Worked rows of the hosts of nests.
use Rattle.std.proofs.Common.{◌≡◌, ℕ, List, [], ◌∷◌, Option, Some, None, false, refl}
use Rattle.std.specs.Prelude.{codes}
use Rattle.jl_prim.specs.declared.numbers.ClassId.{ClassId}
use Rattle.jl_prim.specs.declared.numbers.LoaderId.{LoaderId}
use Rattle.jl_prim.specs.declared.numbers.ModuleId.{ModuleId}
use Rattle.jl_prim.specs.declared.declaration.Declaration.{Declaration}
use Rattle.jl_prim.specs.declared.declaration.ParentLoader.TheVariants.{Null}
use Rattle.jl_names.specs.Names.{package_of}
use Rattle.jl_loaders.specs.Loaders.{lead_by}
use Rattle.jl_layer.specs.declared.layer.Member.{Member}
use Rattle.jl_loads.specs.Worlds.{State, Loaded}
use Rattle.jl_loads.specs.Loading.{load_by}
use Rattle.jl_link.specs.Nests.{host_of}

abbrev m : ℕ → ModuleId
m n = record { 0 = n }

abbrev l : ℕ → LoaderId
l n = record { 0 = n }

abbrev c : ℕ → ClassId
c n = record { 0 = n }

-- ---- a module with packages p and q

abbrev declaration : Declaration
declaration = record { name = codes "a"; is_open = false; version = None; required = []; exports = []; opens = []; uses = []; provides = []; packages = codes "p" ∷ codes "q" ∷ []; main = None }

abbrev member : Member
member = record { layer = record { 0 = 1 }; loader = l 1; observed = record { declaration = declaration; place = codes "a" } }

-- a class with a host, or with members
abbrev class : List ℕ → Option (List ℕ) → List (List ℕ) → Loaded
class name host members = record {
  loader = l 1;
  home = m 1;
  super = None;
  interfaces = [];
  declared = record {
    major = 61;
    minor = 0;
    flags = 0x20;
    name = name;
    super_name = None;
    interfaces = [];
    fields = [];
    methods = [];
    nest_host = host;
    nest_members = members;
    permits = None;
    pool = [];
  };
}

abbrev world : List Loaded → State
world classes = record {
  layers = record {
    configurations = [];
    layers = [];
    modules = member ∷ [];
    loaders = record { loaders = record { own = (codes "p", m 1) ∷ (codes "q", m 1) ∷ []; seen = []; parent = Null } ∷ []; base = None; constraints = []; spare = 0 };
    facts = record { modules = record { is_open = false; packages = codes "p" ∷ codes "q" ∷ [] } ∷ []; statements = []; spare_modules = 0; spare_statements = 0 };
  };
  classes = classes;
  report = [];
  slots = [];
  kept = [];
}

-- ---- hosts

-- a class that names none is its own, whatever it lists
row_itself : host_of [] 0 (world (class (codes "p/A") None (codes "p/B" ∷ []) ∷ [])) (c 1) ≡ (world (class (codes "p/A") None (codes "p/B" ∷ []) ∷ []), c 1)
unfolding load_by lead_by package_of
row_itself = refl

-- a host that lists the class
abbrev listed : State
listed = world (class (codes "p/A") None (codes "p/C" ∷ codes "p/B" ∷ []) ∷ class (codes "p/B") (Some (codes "p/A")) [] ∷ [])

row_listed : host_of [] 0 listed (c 2) ≡ (listed, c 1)
unfolding load_by lead_by package_of
row_listed = refl

-- a host that lists another class alone
abbrev not_listed : State
not_listed = world (class (codes "p/A") None (codes "p/C" ∷ []) ∷ class (codes "p/B") (Some (codes "p/A")) [] ∷ [])

row_not_listed : host_of [] 0 not_listed (c 2) ≡ (not_listed, c 2)
unfolding load_by lead_by package_of
row_not_listed = refl

-- a host of another package, though it lists the class
abbrev elsewhere : State
elsewhere = world (class (codes "q/A") None (codes "p/B" ∷ []) ∷ class (codes "p/B") (Some (codes "q/A")) [] ∷ [])

row_elsewhere : host_of [] 0 elsewhere (c 2) ≡ (elsewhere, c 2)
unfolding load_by lead_by package_of
row_elsewhere = refl

-- a class that names itself, and does not list itself
abbrev names_itself : State
names_itself = world (class (codes "p/A") (Some (codes "p/A")) [] ∷ [])

row_names_itself : host_of [] 0 names_itself (c 1) ≡ (names_itself, c 1)
unfolding load_by lead_by package_of
row_names_itself = refl

-- a host that is led nowhere
abbrev nowhere : State
nowhere = world (class (codes "p/B") (Some (codes "z/A")) [] ∷ [])

row_nowhere : host_of [] 0 nowhere (c 1) ≡ (nowhere, c 1)
unfolding load_by lead_by package_of
row_nowhere = refl

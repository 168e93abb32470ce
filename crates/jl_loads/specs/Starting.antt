-- When classes of java.base may be defined one behind the other, as the code takes its steps. No public clause cites these.
use Rattle.std.specs.Prelude.{◌≡◌, ℕ, List, None, Some, Contains, IsTrue, map}
use Rattle.jl_logic.specs.Lists.{AreDistinct}
use Rattle.jl_prim.specs.declared.numbers.ClassId.{ClassId}
use Rattle.jl_prim.specs.declared.numbers.LoaderId.{LoaderId}
use Rattle.jl_class.specs.Classes.{Class}
use Rattle.jl_loads.specs.Worlds.{State, defined, loader_of_module}
use Rattle.jl_loads.specs.Beginning.{base_of, is_name_among, stand_in_order}

-- the loader of java.base
abbrev pub base_loader : State → LoaderId
base_loader s = loader_of_module s (base_of s)

-- a class of java.base has this name
abbrev pub IsBegun : State → List ℕ → Type 0
IsBegun s name = (d : ClassId) × (defined s (base_loader s) name ≡ Some d)

-- The supertypes of a class are there, and it is not.
pub record MayBegin (s : State) (c : Class) : Type 0 where
  pub super : (name : List ℕ) → c.super_name ≡ Some name → IsBegun s name
  pub interfaces : (name : List ℕ) → Contains c.interfaces name → IsBegun s name
  pub fresh : defined s (base_loader s) c.name ≡ None

-- Classes that stand behind those that are there, each with a name of its own.
pub record MayFollow (s : State) (cs : List Class) : Type 0 where
  pub before : List (List ℕ)
  pub order : IsTrue (stand_in_order before cs)
  pub apart : AreDistinct (map (λ (c : Class). c.name) cs)
  pub there : (name : List ℕ) → IsTrue (is_name_among name before) → IsBegun s name
  pub fresh : (c : Class) → Contains cs c → defined s (base_loader s) c.name ≡ None

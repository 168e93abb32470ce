-- Where the loaders of layers lead (JVMS 5.3; `java.lang.ModuleLayer`).
use Rattle.std.specs.Prelude.{◌≡◌, ℕ, zero, suc, ◌+◌, ◌<◌, ◌≤◌, List, [], ◌∷◌, ◌++◌, length, Option, None, Some, ◌==◌, slice_get, if◌then◌else◌}
use Rattle.std.specs.Option.{option_or}
use Rattle.std.specs.declared.cmp.Ordering.{Ordering}
use Rattle.jl_logic.specs.Order.{is_text, name_cmp, RisesBy}
use Rattle.jl_names.specs.Names.{package_of}
use Rattle.jl_prim.specs.declared.numbers.ModuleId.{ModuleId}
use Rattle.jl_prim.specs.declared.numbers.LoaderId.{LoaderId}
use Rattle.jl_prim.specs.declared.declaration.ParentLoader.{ParentLoader}
use Rattle.jl_prim.specs.declared.declaration.ParentLoader.TheVariants.{Null, Loader}
use Rattle.jl_loaders.specs.declared.constraint.Constraint.{Constraint}

-- A loader: the packages of its modules, those that these get from other modules by exports, each with its module, and the loader to which it turns last.
pub record Parts : Type 0 where
  pub own : List (List ℕ × ModuleId)
  pub seen : List (List ℕ × ModuleId)
  pub parent : ParentLoader

-- Loaders have numbers from 1 on, in the order of the list. base is the module of java.base, once there is one. spare counts the loaders for which there is room.
pub record State : Type 0 where
  pub loaders : List Parts
  pub base : Option ModuleId
  pub constraints : List Constraint
  pub spare : ℕ

-- ---- packages and their modules

-- the module of the first pair of a package
abbrev pub given_for : List ℕ → List (List ℕ × ModuleId) → Option ModuleId
given_for p [] = None
given_for p (x ∷ xs) = if is_text x.0 p then Some x.1 else given_for p xs

-- what a loader has for a package: a module of its own, or else one that is seen
abbrev pub module_for : Parts → List ℕ → Option ModuleId
module_for l p = option_or (given_for p l.own) (given_for p l.seen)

-- packages with their modules, by the packages
abbrev pub package_cmp : List ℕ × ModuleId → List ℕ × ModuleId → Ordering
package_cmp x y = name_cmp x.0 y.0

-- The map of a loader: a pair for each package that it has, in rising order, with the module that it has for it.
pub record IsMap (l : Parts) (pairs : List (List ℕ × ModuleId)) : Type 0 where
  pub rises : RisesBy package_cmp pairs
  pub gives : (p : List ℕ) → given_for p pairs ≡ module_for l p

-- ---- loaders by number

-- the loader with a number
abbrev pub numbered : List Parts → ℕ → Option Parts
numbered ls zero = None
numbered ls (suc n) = slice_get ls n

-- a loader with this number is there
abbrev pub IsLoader : State → LoaderId → Type 0
IsLoader s l = (0 < l.0) × (l.0 ≤ length s.loaders)

-- the parent is there, where it is a loader
abbrev pub ParentExists : State → ParentLoader → Type 0
ParentExists s Null = Unit {0}
ParentExists s (Loader l) = IsLoader s l

-- ---- where a name leads

-- what a loader has for a package, where there is the loader
abbrev pub had_by : Option Parts → List ℕ → Option ModuleId
had_by None p = None
had_by (Some l) p = module_for l p

-- the module, where it is that one
abbrev pub if_same : Option ModuleId → Option ModuleId → Option ModuleId
if_same (Some m) (Some n) = if m.0 == n.0 then Some m else None
if_same _ _ = None

-- A null parent leads to java.base, for the packages that loader 1 has for it.
abbrev pub base_lead : State → List ℕ → Option ModuleId
base_lead s p = if_same s.base (had_by (numbered s.loaders 1) p)

-- the parent of a loader; of none it is null
abbrev pub parent_in : Option Parts → ParentLoader
parent_in None = Null
parent_in (Some l) = l.parent

-- Where a parent leads for a package: to what it has, else to where its own parent leads, over n loaders at most.
unfoldable pub lead_by : ℕ → State → ParentLoader → List ℕ → Option ModuleId
lead_by n s Null p = base_lead s p
lead_by zero s (Loader l) p = None
lead_by (suc n) s (Loader l) p = option_or (had_by (numbered s.loaders l.0) p) (lead_by n s (parent_in (numbered s.loaders l.0)) p)

-- Where a loader leads for the name of a class. Parents have lower numbers, so the way has no more loaders than the number says.
abbrev pub lead : State → LoaderId → List ℕ → Option ModuleId
lead s l name = lead_by l.0 s (Loader l) (package_of name)

-- ---- changes

-- one more loader, which takes the room of one
pub record Places (l : Parts) (old new : State) : Type 0 where
  pub loaders : new.loaders ≡ old.loaders ++ l ∷ []
  pub base : new.base ≡ old.base
  pub constraints : new.constraints ≡ old.constraints
  pub spare : new.spare + 1 ≡ old.spare

-- the same loaders and constraints; room is not spoken of
pub record IsAsBefore (old new : State) : Type 0 where
  pub loaders : new.loaders ≡ old.loaders
  pub base : new.base ≡ old.base
  pub constraints : new.constraints ≡ old.constraints

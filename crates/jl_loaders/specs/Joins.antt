-- Loaders that entries of a name join, as rows of places (JVMS 5.3.4). No public clause cites these.
use Rattle.std.specs.Prelude.{◌≡◌, ◌≢◌, ◌<◌, ◌≤◌, ◌+◌, ◌-◌, ℕ, List, [], ◌∷◌, ◌++◌, length, Option, None, Some, Result, Ok, Err, Bool, true, Contains, slice_get, slice_set, slice_index_or, ⊤}
use Rattle.jl_prim.specs.declared.numbers.ModuleId.{ModuleId}
use Rattle.jl_prim.specs.declared.numbers.LoaderId.{LoaderId}
use Rattle.jl_loaders.specs.declared.constraint.Constraint.{Constraint}
use Rattle.jl_loaders.specs.declared.fault.ConstraintFault.{ConstraintFault}
use Rattle.jl_loaders.specs.declared.fault.ConstraintFault.TheVariants.{Clash, NoMemory}
use Rattle.jl_loaders.specs.Loaders.{State, lead}
use Rattle.jl_loaders.specs.Constraints.{IsEntry, GroupLeads}

-- the loader at a place
abbrev pub loader_at : ℕ → LoaderId
loader_at p = record { 0 = p + 1 }

-- one of so many loaders
abbrev pub IsWithin : ℕ → LoaderId → Type 0
IsWithin count l = (0 < l.0) × (l.0 ≤ count)

-- constraints on so many loaders
abbrev pub AreWithin : ℕ → List Constraint → Type 0
AreWithin count cs = (c : Constraint) → Contains cs c → IsWithin count c.one × IsWithin count c.other

-- a row for each loader: the places of those that an entry of the name joins to it
pub record AreJoins (count : ℕ) (cs : List Constraint) (name : List ℕ) (rows : List (List ℕ)) : Type 0 where
  pub one_each : length rows ≡ count
  pub only : (p q : ℕ) → Contains (slice_index_or rows p []) q → IsEntry cs name (loader_at p) (loader_at q)
  pub all : (p q : ℕ) → IsEntry cs name (loader_at p) (loader_at q) → Contains (slice_index_or rows p []) q

-- one place more in a row
abbrev pub with_place : List (List ℕ) → ℕ → ℕ → List (List ℕ)
with_place rows at p = slice_set rows at (slice_index_or rows at [] ++ p ∷ [])

-- two loaders joined, each to the other
abbrev pub with_join : List (List ℕ) → LoaderId → LoaderId → List (List ℕ)
with_join rows one other = with_place (with_place rows (one.0 - 1) (other.0 - 1)) (other.0 - 1) (one.0 - 1)

-- the lead of a marked loader, or that none of them leads
abbrev pub IsMarkedLead : State → List Bool → List ℕ → Option ModuleId → Type 0
IsMarkedLead s marks name None = (p : ℕ) → slice_get marks p ≡ Some true → lead s (loader_at p) name ≡ None
IsMarkedLead s marks name (Some m) = (p : ℕ) × (slice_get marks p ≡ Some true) × (lead s (loader_at p) name ≡ Some m)

-- the module to which loaders that are joined with a lead the name, or that none of them does
abbrev pub IsGroupLead : State → List ℕ → LoaderId → Option ModuleId → Type 0
IsGroupLead s name a None = (m : ModuleId) → GroupLeads s name a m → ⊥
IsGroupLead s name a (Some m) = GroupLeads s name a m

-- two groups that do not lead to two modules
abbrev pub Agree : Option ModuleId → Option ModuleId → Type 0
Agree None y = ⊤
Agree (Some x) None = ⊤
Agree (Some x) (Some y) = x ≡ y

-- what the modules of two groups make of a constraint on a name
abbrev pub IsJudged : List ℕ → Option ModuleId → Option ModuleId → Result (List ℕ) ConstraintFault → Type 0
IsJudged name one other (Ok n) = (n ≡ name) × Agree one other
IsJudged name one other (Err (Clash n x y)) = (n ≡ name) × (one ≡ Some x) × (other ≡ Some y) × (x ≢ y)
IsJudged name one other (Err NoMemory) = ⊥

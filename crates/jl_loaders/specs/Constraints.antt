-- Constraints on loaders (JVMS 5.3.4).
use Rattle.std.specs.Prelude.{◌≡◌, ◌≢◌, ℕ, zero, suc, List, [], ◌∷◌, ◌++◌, Some, Contains, ◌⊎◌}
use Rattle.jl_prim.specs.declared.numbers.ModuleId.{ModuleId}
use Rattle.jl_prim.specs.declared.numbers.LoaderId.{LoaderId}
use Rattle.jl_loaders.specs.declared.constraint.Constraint.{Constraint}
use Rattle.jl_loaders.specs.Loaders.{State, lead}

-- a constraint on the loaders for a name
abbrev pub constraint : List ℕ → LoaderId → LoaderId → Constraint
constraint name a b = record { name = name; one = a; other = b }

-- an entry of the name joins the two, in one direction or the other
abbrev pub IsEntry : List Constraint → List ℕ → LoaderId → LoaderId → Type 0
IsEntry cs name a b = Contains cs (constraint name a b) ⊎ Contains cs (constraint name b a)

-- a chain of n entries of the name joins the two
abbrev pub IsChain : List Constraint → List ℕ → ℕ → LoaderId → LoaderId → Type 0
IsChain cs name zero a b = a ≡ b
IsChain cs name (suc n) a b = (c : LoaderId) × IsChain cs name n a c × IsEntry cs name c b

-- some chain does
abbrev pub AreJoined : List Constraint → List ℕ → LoaderId → LoaderId → Type 0
AreJoined cs name a b = (n : ℕ) × IsChain cs name n a b

-- a loader that is joined with a leads to the module
abbrev pub GroupLeads : State → List ℕ → LoaderId → ModuleId → Type 0
GroupLeads s name a m = (b : LoaderId) × AreJoined s.constraints name a b × (lead s b name ≡ Some m)

-- Two loaders that are joined lead a name to two modules.
abbrev pub IsViolated : State → Type 0
IsViolated s = (name : List ℕ) × (a : LoaderId) × (m : ModuleId) × (n : ModuleId)
    × (lead s a name ≡ Some m) × GroupLeads s name a n × (m ≢ n)

-- one constraint more
abbrev pub with_constraint : List ℕ → LoaderId → LoaderId → State → State
with_constraint name a b s = record { loaders = s.loaders; base = s.base; constraints = s.constraints ++ constraint name a b ∷ []; spare = s.spare }

-- The two would be joined, and lead the name to the one and to the other module.
pub record Clashes (s : State) (name : List ℕ) (a b : LoaderId) (one other : ModuleId) : Type 0 where
  pub first : GroupLeads s name a one
  pub second : GroupLeads s name b other
  pub apart : one ≢ other

-- Why a constraint on loaders is not imposed (JVMS 5.3.4).
use Rattle.std.specs.Prelude.{◌≡◌, ℕ, List, ⊤}
use Rattle.jl_prim.specs.declared.numbers.ModuleId.{ModuleId}
use Rattle.jl_prim.specs.declared.numbers.LoaderId.{LoaderId}
use Rattle.jl_loaders.specs.declared.fault.ConstraintFault.{ConstraintFault}
use Rattle.jl_loaders.specs.declared.fault.ConstraintFault.TheVariants.{Clash, NoMemory}
use Rattle.jl_loaders.specs.Loaders.{State}
use Rattle.jl_loaders.specs.Constraints.{IsViolated, with_constraint, Clashes}

-- A clash names the name and the two modules, and with the constraint joined loaders would lead to two.
pub record IsClash (s : State) (name : List ℕ) (a b : LoaderId) (clashing : List ℕ) (one other : ModuleId) : Type 0 where
  pub named : clashing ≡ name
  pub leads : Clashes s name a b one other
  pub violated : IsViolated (with_constraint name a b s)

-- What a refusal says. Want of memory says nothing.
abbrev pub IsRefusal : State → List ℕ → LoaderId → LoaderId → ConstraintFault → Type 0
IsRefusal s name a b (Clash clashing one other) = IsClash s name a b clashing one other
IsRefusal s name a b NoMemory = ⊤

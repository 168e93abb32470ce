-- Laws of loaders: a lead never moves, and constraints that stand go on to stand (JVMS 5.3, 5.3.4).
use Rattle.std.specs.Prelude.{◌≡◌, ◌⊎◌, ℕ, ◌<◌, List, [], Some, Contains}
use Rattle.jl_logic.specs.Lists.{IsFront}
use Rattle.jl_prim.specs.declared.numbers.LoaderId.{LoaderId}
use Rattle.jl_prim.specs.declared.declaration.ParentLoader.TheVariants.{Loader}
use Rattle.jl_loaders.specs.declared.constraint.Constraint.{Constraint}
use Rattle.jl_loaders.specs.Loaders.{State, Parts, IsLoader, numbered, lead}
use Rattle.jl_loaders.specs.Constraints.{IsViolated}

-- the parent of each loader has a lower number
abbrev pub ParentsBelow : List Parts → Type 0
ParentsBelow ls = (n : ℕ) (l : Parts) (p : LoaderId) → numbered ls n ≡ Some l → l.parent ≡ Loader p → (0 < p.0) × (p.0 < n)

-- the loaders of each constraint are there
abbrev pub AreOfLoaders : State → Type 0
AreOfLoaders s = (c : Constraint) → Contains s.constraints c → IsLoader s c.one × IsLoader s c.other

-- What holds of loaders at any time: parents have lower numbers, and constraints are of loaders and not violated.
pub record AreSound (s : State) : Type 0 where
  pub below : ParentsBelow s.loaders
  pub named : AreOfLoaders s
  pub stand : IsViolated s → ⊥

-- The old loaders, and any more behind them. Once there is a loader, the module of java.base stays.
pub record Grows (old new : State) : Type 0 where
  pub loaders : IsFront old.loaders new.loaders
  pub base : (old.loaders ≡ []) ⊎ (new.base ≡ old.base)

-- Whatever loaders and constraints come, the lead of a loader that is there does not move, and constraints that stand are not violated.
pub record LeadsStay : Type 0 where
  pub leads : (f g : State) (l : LoaderId) (name : List ℕ) → ParentsBelow f.loaders → Grows f g → IsLoader f l → lead g l name ≡ lead f l name
  pub constraints : (f g : State) → AreSound f → Grows f g → g.constraints ≡ f.constraints → IsViolated g → ⊥
  pub onward : (f g h : State) → Grows f g → Grows g h → Grows f h

-- Facts: the modules, and a list of statements about them that only grows (`java.lang.Module`).
use Rattle.std.specs.Prelude.{◌≡◌, ℕ, zero, suc, ◌<◌, ◌≤◌, List, [], ◌∷◌, ◌++◌, length, Option, None, Some, Bool, true, false, ◌&&◌, ◌||◌, ◌==◌, IsTrue, slice_get, ⊤}
use Rattle.std.specs.List.{list_any}
use Rattle.jl_logic.specs.Lists.{IsFront}
use Rattle.jl_logic.specs.Order.{is_text}
use Rattle.jl_prim.specs.declared.numbers.ModuleId.{ModuleId}
use Rattle.jl_access.specs.declared.statement.Reach.{Reach}
use Rattle.jl_access.specs.declared.statement.Reach.TheVariants.{All, To, Nobody}
use Rattle.jl_access.specs.declared.statement.Statement.{Statement}
use Rattle.jl_access.specs.declared.statement.Statement.TheVariants.{Reads, Exports, Opens, Uses}

-- a module, as facts know it
pub record Declared : Type 0 where
  pub is_open : Bool
  pub packages : List (List ℕ)

-- Modules have numbers from 1 on, in the order of the list. spare counts the modules and the statements for which there is room.
pub record State : Type 0 where
  pub modules : List Declared
  pub statements : List Statement
  pub spare_modules : ℕ
  pub spare_statements : ℕ

-- the same module
abbrev pub is_same : ModuleId → ModuleId → Bool
is_same a b = a.0 == b.0

-- the module with a number
abbrev pub numbered : List Declared → ℕ → Option Declared
numbered modules zero = None
numbered modules (suc n) = slice_get modules n

-- an open module, where there is one
abbrev pub is_open_in : Option Declared → Bool
is_open_in None = false
is_open_in (Some d) = d.is_open

-- the packages of a module, where there is one
abbrev pub packages_in : Option Declared → List (List ℕ)
packages_in None = []
packages_in (Some d) = d.packages

-- an open module (JLS 7.7)
abbrev pub is_open_module : State → ModuleId → Bool
is_open_module f m = is_open_in (numbered f.modules m.0)

-- the package is one of the module
abbrev pub has_package : State → ModuleId → List ℕ → Bool
has_package f m p = list_any (λ q. is_text q p) (packages_in (numbered f.modules m.0))

-- ---- what statements say

-- the reach takes a module in
abbrev pub reaches : Reach → ModuleId → Bool
reaches All c = true
reaches (To m) c = is_same m c
reaches Nobody c = false

-- the reach is that to all
abbrev pub reaches_all : Reach → Bool
reaches_all All = true
reaches_all _ = false

-- the statement is that the first module reads the second
abbrev pub says_reads : ModuleId → ModuleId → Statement → Bool
says_reads a b (Reads x y) = is_same x a && is_same y b
says_reads a b _ = false

-- the statement exports the package, to a reach with the property
abbrev pub says_exports : (Reach → Bool) → ModuleId → List ℕ → Statement → Bool
says_exports to m p (Exports x q r) = is_same x m && (is_text q p && to r)
says_exports to m p _ = false

-- the statement opens the package, to a reach with the property
abbrev pub says_opens : (Reach → Bool) → ModuleId → List ℕ → Statement → Bool
says_opens to m p (Opens x q r) = is_same x m && (is_text q p && to r)
says_opens to m p _ = false

-- the statement is that the module uses the service
abbrev pub says_uses : ModuleId → List ℕ → Statement → Bool
says_uses m s (Uses x t) = is_same x m && is_text t s
says_uses m s _ = false

-- ---- what holds

-- a module reads itself
abbrev pub reads : State → ModuleId → ModuleId → Bool
reads f a b = is_same a b || list_any (says_reads a b) f.statements

-- a reach that does not matter
abbrev pub anywhere : Reach → Bool
anywhere r = true

-- a reach that takes the module in
abbrev pub reach_to : ModuleId → Reach → Bool
reach_to c r = reaches r c

-- the package is open, to whomever
abbrev pub opened : State → ModuleId → List ℕ → Bool
opened f m p = is_open_module f m || list_any (says_opens anywhere m p) f.statements

-- the package is open to the module: its own, of an open module, or opened to it or to all
abbrev pub open_to : State → ModuleId → List ℕ → ModuleId → Bool
open_to f m p c = is_same m c || (is_open_module f m || list_any (says_opens (reach_to c) m p) f.statements)

-- what is open is exported
abbrev pub exported : State → ModuleId → List ℕ → Bool
exported f m p = opened f m p || list_any (says_exports anywhere m p) f.statements

-- the package is exported to the module; what is open to it is
abbrev pub exported_to : State → ModuleId → List ℕ → ModuleId → Bool
exported_to f m p c = open_to f m p c || list_any (says_exports (reach_to c) m p) f.statements

-- the module uses the service
abbrev pub uses : State → ModuleId → List ℕ → Bool
uses f m s = list_any (says_uses m s) f.statements

-- the package is open to every module
abbrev pub open_to_all : State → ModuleId → List ℕ → Bool
open_to_all f m p = is_open_module f m || list_any (says_opens reaches_all m p) f.statements

-- likewise exported
abbrev pub exported_to_all : State → ModuleId → List ℕ → Bool
exported_to_all f m p = open_to_all f m p || list_any (says_exports reaches_all m p) f.statements

-- ---- questions about a package, which a package of another module answers with no

-- exported to a module, or to all where none is given
abbrev pub asked_exported : State → ModuleId → List ℕ → Option ModuleId → Bool
asked_exported f m p None = has_package f m p && exported_to_all f m p
asked_exported f m p (Some c) = has_package f m p && exported_to f m p c

-- open to a module, or to all where none is given
abbrev pub asked_open : State → ModuleId → List ℕ → Option ModuleId → Bool
asked_open f m p None = has_package f m p && open_to_all f m p
asked_open f m p (Some c) = has_package f m p && open_to f m p c

-- ---- changes

-- a module with this number is there
abbrev pub IsModule : State → ModuleId → Type 0
IsModule f m = (0 < m.0) × (m.0 ≤ length f.modules)

-- the module of a reach is there
abbrev pub ReachExists : State → Reach → Type 0
ReachExists f All = ⊤
ReachExists f (To m) = IsModule f m
ReachExists f Nobody = ⊤

-- the module is there, where one is given
abbrev pub OptionExists : State → Option ModuleId → Type 0
OptionExists f None = ⊤
OptionExists f (Some m) = IsModule f m

-- the modules that a statement names are there, and its package is in its module
abbrev pub IsStatable : State → Statement → Type 0
IsStatable f (Reads a b) = IsModule f a × IsModule f b
IsStatable f (Exports m p r) = IsModule f m × (IsTrue (has_package f m p) × ReachExists f r)
IsStatable f (Opens m p r) = IsModule f m × (IsTrue (has_package f m p) × ReachExists f r)
IsStatable f (Uses m s) = IsModule f m

-- to all, or to one module
abbrev pub reach_of : Option ModuleId → Reach
reach_of None = All
reach_of (Some m) = To m

-- the same modules and statements; room is not spoken of
pub record IsAsBefore (old new : State) : Type 0 where
  pub modules : new.modules ≡ old.modules
  pub statements : new.statements ≡ old.statements

-- the old modules and statements, and any more behind them
pub record Grows (old new : State) : Type 0 where
  pub modules : IsFront old.modules new.modules
  pub statements : IsFront old.statements new.statements

-- one more statement, and nothing else
pub record Adds (s : Statement) (old new : State) : Type 0 where
  pub modules : new.modules ≡ old.modules
  pub statements : new.statements ≡ old.statements ++ s ∷ []

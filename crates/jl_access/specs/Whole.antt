-- How the parts of facts make statements (`java.lang.Module`).
use Rattle.std.specs.Prelude.{ℕ, ◌<◌, ◌≤◌, List, length, Bool, false, ◌&&◌, ⊤}
use Rattle.std.specs.List.{AllByRecursion}
use Rattle.jl_logic.specs.Order.{is_text}
use Rattle.jl_access.specs.declared.facts.Module.{Module}
use Rattle.jl_access.specs.declared.statement.Reach.TheVariants.{All}
use Rattle.jl_access.specs.declared.statement.Statement.{Statement}
use Rattle.jl_access.specs.declared.statement.Statement.TheVariants as statements
use Rattle.jl_access.specs.declared.table.About.{About}
use Rattle.jl_access.specs.declared.table.About.TheVariants.{Exports, Opens, Uses}
use Rattle.jl_access.specs.declared.table.Fact.{Fact}
use Rattle.jl_access.specs.declared.table.Fact.TheVariants.{Reads, Of}
use Rattle.jl_access.specs.Facts.{Declared}
use Rattle.jl_access.specs.Kept.{Texts, Known, text_at, is_same_about}

-- ---- modules

-- a module as contracts see it
abbrev pub declared : Module → Declared
declared m = record { is_open = m.is_open; packages = m.packages }

-- ---- statements

-- the statement that says this of a name
abbrev pub said : About → List ℕ → Statement
said (Exports m r) p = statements.Exports m p r
said (Opens m r) p = statements.Opens m p r
said (Uses m) s = statements.Uses m s

-- the statement of a fact
abbrev pub stated : List (List ℕ) → Fact → Statement
stated texts (Reads a b) = statements.Reads a b
stated texts (Of x n) = said x (text_at texts n)

-- the number is that of a text
abbrev pub IsNamed : ℕ → Fact → Type 0
IsNamed count (Reads a b) = ⊤
IsNamed count (Of x n) = n < count

-- each fact has a name, and there is room for so many more
pub record IsWhole (names : Texts) (known : Known) (spare : ℕ) : Type 0 where
  pub named : AllByRecursion (IsNamed (length names.texts)) known.facts
  pub names_room : spare ≤ names.spare_texts
  pub facts_room : spare ≤ known.spare_facts

-- ---- what statements say

-- this, of the name
abbrev pub says : About → List ℕ → Statement → Bool
says x p (statements.Reads a b) = false
says x p (statements.Exports m q r) = is_same_about x (Exports m r) && is_text q p
says x p (statements.Opens m q r) = is_same_about x (Opens m r) && is_text q p
says x p (statements.Uses m t) = is_same_about x (Uses m) && is_text t p

-- a statement, where the reach is that to all
abbrev pub statement_all : Statement → Statement
statement_all (statements.Reads a b) = statements.Reads a b
statement_all (statements.Exports m q r) = statements.Exports m q All
statement_all (statements.Opens m q r) = statements.Opens m q All
statement_all (statements.Uses m t) = statements.Uses m t

-- the same, where each reach is taken for that to all
abbrev pub says_anywhere : About → List ℕ → Statement → Bool
says_anywhere x p s = says x p (statement_all s)

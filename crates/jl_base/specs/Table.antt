-- The rows of the table, which is kept in parts.
use Rattle.std.specs.Prelude.{ℕ, List, [], ◌∷◌, map}
use Rattle.std.specs.List.{flat_map}
use Rattle.std.specs.Borrow.{Bor}
use Rattle.jl_base.specs.declared.row.MemberKind.{MemberKind}
use Rattle.jl_base.specs.declared.table.values.TheConstants.{VALUES}
use Rattle.jl_base.specs.declared.table.interfaces.TheConstants.{INTERFACES}
use Rattle.jl_base.specs.declared.table.exceptions.TheConstants.{EXCEPTIONS}
use Rattle.jl_base.specs.declared.table.errors.TheConstants.{ERRORS}
use Rattle.jl_base.specs.declared.table.collections.TheConstants.{COLLECTIONS}
use Rattle.jl_base.specs.declared.table.system.TheConstants.{SYSTEM}
use Rattle.jl_base.specs.declared.table.reflection.TheConstants.{REFLECTION}
use Rattle.jl_base.specs.declared.table.modules.TheConstants.{MODULES}
use Rattle.jl_base.specs.declared.table.hidden.TheConstants.{HIDDEN}
use Rattle.jl_base.specs.Rows.{Row, RowParts, row_of}

-- the rows of parts, one part behind the other
abbrev pub rows_of : List (Bor (List RowParts)) → List Row
rows_of parts = flat_map (λ part. map row_of part.now) parts

-- A text or a list in a constant, which has no place: a constant is seen by what it says alone, and what the program lends of it by its place too. So a row is read in two ways.
abbrev pub Kept : Type 0 → Type 0
Kept A = record { now : A }

-- a row of a constant, as `row_of` is one of what is lent
abbrev pub kept_row : ℕ × Kept (List ℕ) × Kept (List ℕ) × Kept (List (Kept (List ℕ))) × Kept (List (ℕ × Kept (List ℕ) × Kept (List ℕ) × MemberKind)) → Row
kept_row r = record {
  flags = r.0;
  name = r.1.now;
  super_name = r.2.now;
  interfaces = map (λ name. name.now) r.3.now;
  members = map (λ m. record { flags = m.0; name = m.1.now; desc = m.2.now; kind = m.3 }) r.4.now;
}

-- what programs are made of in java.lang
unfoldable pub values_rows : List Row
values_rows = map kept_row VALUES

-- the interfaces of java.lang
unfoldable pub interfaces_rows : List Row
interfaces_rows = map kept_row INTERFACES

-- Throwable and the exceptions
unfoldable pub exceptions_rows : List Row
exceptions_rows = map kept_row EXCEPTIONS

-- the errors
unfoldable pub errors_rows : List Row
errors_rows = map kept_row ERRORS

-- java.util
unfoldable pub collections_rows : List Row
collections_rows = map kept_row COLLECTIONS

-- System, classes and modules, and java.io
unfoldable pub system_rows : List Row
system_rows = map kept_row SYSTEM

-- java.lang.reflect
unfoldable pub reflection_rows : List Row
reflection_rows = map kept_row REFLECTION

-- java.lang.module and java.nio.file
unfoldable pub modules_rows : List Row
modules_rows = map kept_row MODULES

-- jdk.internal
unfoldable pub hidden_rows : List Row
hidden_rows = map kept_row HIDDEN

-- the whole table, one part behind the other
unfoldable pub table : List Row
table = flat_map (λ (rows : List Row). rows) (values_rows ∷ interfaces_rows ∷ exceptions_rows ∷ errors_rows ∷ collections_rows ∷ system_rows ∷ reflection_rows ∷ modules_rows ∷ hidden_rows ∷ [])

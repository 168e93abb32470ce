-- Types in a descriptor whose names stand between characters of it (JVMS 4.3.2).
use Rattle.std.specs.Prelude.{ℕ, ◌<◌, ◌≤◌, List}
use Rattle.std.specs.List.{AllByRecursion}
use Rattle.std.specs.Str.{IsCharBoundary}
use Rattle.jl_names.specs.declared.types.BaseType.{BaseType}
use Rattle.jl_names.specs.declared.types.BaseType.TheVariants.{Prim, Class}
use Rattle.jl_names.specs.declared.types.FieldType.{FieldType}

-- the name of a class is a piece of the text
pub record IsPiece (text : List ℕ) (from to : ℕ) : Type 0 where
  pub rises : from ≤ to
  pub starts : IsCharBoundary text from
  pub ends : IsCharBoundary text to

abbrev pub IsBaseCut : List ℕ → BaseType → Type 0
IsBaseCut text (Prim letter) = letter < 128
IsBaseCut text (Class from to) = IsPiece text from to

abbrev pub IsCut : List ℕ → FieldType → Type 0
IsCut text t = IsBaseCut text t.base

abbrev pub AreCut : List ℕ → List FieldType → Type 0
AreCut text types = AllByRecursion (IsCut text) types

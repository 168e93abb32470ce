-- Imposing the constraints of a descriptor, as the code takes its steps. No public clause cites these.
use Rattle.std.specs.Prelude.{ℕ, ◌≤◌, List, [], ◌∷◌, Option, None, Some, Ok, ⊤}
use Rattle.std.specs.List.{AllByRecursion}
use Rattle.std.specs.Str.{IsCharBoundary}
use Rattle.jl_names.specs.Descriptors.{class_in}
use Rattle.jl_names.specs.declared.types.BaseType.{BaseType}
use Rattle.jl_names.specs.declared.types.BaseType.TheVariants.{Prim, Class}
use Rattle.jl_names.specs.declared.types.FieldType.{FieldType}
use Rattle.jl_names.specs.declared.types.Descriptor.{Descriptor}
use Rattle.jl_names.specs.declared.types.Descriptor.TheVariants as descriptors
use Rattle.jl_prim.specs.declared.numbers.LoaderId.{LoaderId}
use Rattle.jl_loads.specs.Worlds.{State}
use Rattle.jl_loads.specs.Outcomes.{Outcome, and_then}
use Rattle.jl_link.specs.Constraining.{impose}

-- ---- names of classes stand between characters of the text

-- the name of a class is a piece of the text
pub record IsPiece (text : List ℕ) (from to : ℕ) : Type 0 where
  pub rises : from ≤ to
  pub starts : IsCharBoundary text from
  pub ends : IsCharBoundary text to

abbrev pub IsBaseCut : List ℕ → BaseType → Type 0
IsBaseCut text (Prim letter) = ⊤
IsBaseCut text (Class from to) = IsPiece text from to

abbrev pub IsCut : List ℕ → FieldType → Type 0
IsCut text t = IsBaseCut text t.base

abbrev pub AreCut : List ℕ → List FieldType → Type 0
AreCut text types = AllByRecursion (IsCut text) types

-- the result, where there is one
abbrev pub IsResultCut : List ℕ → Option FieldType → Type 0
IsResultCut text None = ⊤
IsResultCut text (Some t) = IsCut text t

-- ---- steps

-- the name of a type, where it names a class
abbrev pub impose_if : State → LoaderId → LoaderId → Option (List ℕ) → Outcome Unit
impose_if s a b None = (s, Ok tt)
impose_if s a b (Some name) = impose s name a b

-- the names of types in turn
unfoldable pub impose_types : State → LoaderId → LoaderId → List ℕ → List FieldType → Outcome Unit
impose_types s a b desc [] = (s, Ok tt)
impose_types s a b desc (t ∷ ts) = and_then (impose_if s a b (class_in desc t)) (λ u x. impose_types u a b desc ts)

-- the name of a result, where there is one
abbrev pub impose_result : State → LoaderId → LoaderId → List ℕ → Option FieldType → Outcome Unit
impose_result s a b desc None = (s, Ok tt)
impose_result s a b desc (Some t) = impose_if s a b (class_in desc t)

-- the names of a descriptor
abbrev pub impose_all : State → LoaderId → LoaderId → List ℕ → Descriptor → Outcome Unit
impose_all s a b desc (descriptors.Field t) = impose_if s a b (class_in desc t)
impose_all s a b desc (descriptors.Method params result) = and_then (impose_types s a b desc params) (λ u x. impose_result u a b desc result)

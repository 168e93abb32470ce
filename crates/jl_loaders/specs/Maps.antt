-- How the map of a loader is made (JVMS 5.3): pairs in the order of their packages. No public clause cites these.
use Rattle.std.specs.Prelude.{ℕ, List, Bool, IsSorted}
use Rattle.std.specs.List.Sorted.{IsStable}
use Rattle.jl_prim.specs.declared.numbers.ModuleId.{ModuleId}
use Rattle.jl_logic.specs.Order.{is_text}
use Rattle.jl_loaders.specs.Loaders.{package_cmp}

-- of one package
abbrev pub is_package : List ℕ × ModuleId → List ℕ × ModuleId → Bool
is_package x y = is_text x.0 y.0

-- the pairs in the order of their packages, those of one package in the order that they had
pub record IsSortedPairs (pairs sorted : List (List ℕ × ModuleId)) : Type 0 where
  pub ordered : IsSorted package_cmp sorted
  pub stable : IsStable package_cmp pairs sorted

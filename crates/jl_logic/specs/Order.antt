-- Names in the order of their bytes, lists that rise, and the least of what has a property.
use Rattle.std.specs.Prelude.{◌≡◌, ◌≢◌, ℕ, List, [], ◌∷◌, Option, None, Some, Bool, nat_eq, ⊤}
use Rattle.std.specs.List.{AllByRecursion}
use Rattle.std.specs.Ordering.{nat_cmp}
use Rattle.std.specs.declared.cmp.Ordering.{Ordering}
use Rattle.std.specs.declared.cmp.Ordering.TheVariants.{Less, Equal, Greater}
use Rattle.std.specs.Cmp.Lexicographic.{pointwise, slice_cmp}

-- the same text
abbrev pub is_text : List ℕ → List ℕ → Bool
is_text = pointwise nat_eq

-- names, by their bytes
abbrev pub name_cmp : List ℕ → List ℕ → Ordering
name_cmp = slice_cmp nat_cmp

-- names that may be absent, absence before all names
abbrev pub optional_cmp : Option (List ℕ) → Option (List ℕ) → Ordering
optional_cmp None None = Equal
optional_cmp None (Some b) = Less
optional_cmp (Some a) None = Greater
optional_cmp (Some a) (Some b) = name_cmp a b

-- each item is less than all after it
abbrev pub RisesBy : {X : Type 0} → (X → X → Ordering) → List X → Type 0
RisesBy cmp [] = ⊤
RisesBy cmp (x ∷ xs) = AllByRecursion (λ y. cmp x y ≡ Less) xs × RisesBy cmp xs

-- x has the property, and nothing that has it is less
pub record IsLeast {X : Type 0} (cmp : X → X → Ordering) (P : X → Type 0) (x : X) : Type 0 where
  pub has : P x
  pub least : (y : X) → P y → cmp y x ≢ Less

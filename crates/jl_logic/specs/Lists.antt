-- Lists of any items.
use Rattle.std.specs.Prelude.{◌≡◌, List, [], ◌∷◌, ◌++◌, ⊤, Contains}

-- the one is the front of the other
abbrev pub IsFront : {X : Type 0} → List X → List X → Type 0
IsFront {X} front whole = (rest : List X) × (whole ≡ front ++ rest)

-- no item is there twice
abbrev pub AreDistinct : {X : Type 0} → List X → Type 0
AreDistinct [] = ⊤
AreDistinct (x ∷ xs) = (Contains xs x → ⊥) × AreDistinct xs

-- one of these for each of those, in order
abbrev pub Match : {A B : Type 0} → (A → B → Type 0) → List A → List B → Type 0
Match R [] [] = ⊤
Match R (x ∷ xs) (y ∷ ys) = R x y × Match R xs ys
Match R [] (y ∷ ys) = ⊥
Match R (x ∷ xs) [] = ⊥

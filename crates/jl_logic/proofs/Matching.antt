-- Lists that match, one for each.
use Rattle.std.proofs.Common.{List, [], ◌∷◌}
use Rattle.jl_logic.specs.Lists.{Match}

-- rows that mean less
pub match_as : {A B : Type 0} {R S : A → B → Type 0} → ((a : A) (b : B) → R a b → S a b) → (xs : List A) (ys : List B) → Match R xs ys → Match S xs ys
match_as f [] [] m = tt
match_as f (x ∷ xs) (y ∷ ys) m = (f x y m.0, match_as f xs ys m.1)
match_as f [] (y ∷ ys) m = absurd m
match_as f (x ∷ xs) [] m = absurd m

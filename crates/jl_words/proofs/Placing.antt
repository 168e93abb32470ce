-- Places among words.
use Rattle.std.proofs.Common.{◌≡◌, ℕ, ◌+◌, ◌-◌, List, [], ◌∷◌, map, length, Bool, not, cond, drop, take, Option, refl, ap, sym, ◌∙◌, arith}
use Rattle.std.proofs.lemmas.List.{drop-map, length-map, length-drop, take_all}
use Rattle.std.specs.List.{position, prefix_len}

prefix_of_words : {W : Type 0} (p : List ℕ → Bool) (f : W → List ℕ) (ws : List W) → prefix_len p (map f ws) ≡ prefix_len (λ w. p (f w)) ws
prefix_of_words p f [] = refl
prefix_of_words p f (w ∷ ws) = ap (λ n. cond (p (f w)) (1 + n) 0) (prefix_of_words p f ws)

pub position_of_words : {W : Type 0} (p : List ℕ → Bool) (f : W → List ℕ) (ws : List W) → position p (map f ws) ≡ position (λ w. p (f w)) ws
position_of_words p f ws = rw (prefix_of_words (λ x. not (p x)) f ws, length-map ws f) refl

-- what a slice from a place on has
pub slice_from : {W : Type 0} (n : ℕ) (ws : List W) → take (length ws - n) (drop n ws) ≡ drop n ws
slice_from n ws = take_all (length ws - n) (drop n ws) (omega (arith, length-drop n ws))

pub slice_mapped : {W : Type 0} (f : W → List ℕ) (n : ℕ) (ws : List W) → map f (take (length ws - n) (drop n ws)) ≡ drop n (map f ws)
slice_mapped f n ws = ap (map f) (slice_from n ws) ∙ sym (drop-map f n ws)

-- the first place from a place on
pub position_from_place : {W : Type 0} (p : List ℕ → Bool) (f : W → List ℕ) (n : ℕ) (ws rest : List W) (r : Option ℕ) → rest ≡ take (length ws - n) (drop n ws) → r ≡ position (λ w. p (f w)) rest → r ≡ position p (drop n (map f ws))
position_from_place p f n ws rest r from is = rw (drop-map f n ws, position_of_words p f (drop n ws), is, from, slice_from n ws) refl

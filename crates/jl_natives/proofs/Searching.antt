-- Looking for a part, comparing and hashing, unit by unit.
use Rattle.std.proofs.Common.{◌≡◌, ℕ, zero, suc, ◌+◌, ◌<◌, List, [], ◌∷◌, length, get_or, drop, min, false, nat_eq, refl, arith, add-one, drop-cons, ℤ, pos, ◌+ℤ◌, ◌*ℤ◌}
use Rattle.std.specs.List.{starts_with}
use Rattle.std.specs.Int.{w32, int_wrap}
use Rattle.jl_natives.specs.Rows.{place_from, difference, hash_from}

-- the part does not stand at the place
pub stands_later : (text part : List ℕ) (at : ℕ) → at < length text → starts_with nat_eq (drop at text) part ≡ false → place_from (at + 1) part (drop (at + 1) text) ≡ place_from at part (drop at text)
stands_later text part at lt is = let e = drop-cons text at 0 lt in let h = rw e at is in rw (e, add-one) (rw h refl)

-- where one text has ended
pub no_difference : (a b : List ℕ) (other : ℤ) (at : ℕ) → at ≡ min (length a) (length b) → difference (drop at a) (drop at b) other ≡ other
no_difference [] b other at e = let z : at ≡ 0 = omega arith in rw z refl
no_difference (x ∷ xs) [] other at e = let z : at ≡ 0 = omega arith in rw z refl
no_difference (x ∷ xs) (y ∷ ys) other zero e = absurd (omega arith)
no_difference (x ∷ xs) (y ∷ ys) other (suc at) e = no_difference xs ys other at (omega arith)

-- one unit more is hashed
pub hash_more : (h : ℤ) (text : List ℕ) (at : ℕ) → at < length text → hash_from h (drop at text) ≡ hash_from (int_wrap w32 (pos 31 *ℤ h +ℤ pos (get_or text at 0))) (drop (suc at) text)
hash_more h text at lt = rw (drop-cons text at 0 lt) refl

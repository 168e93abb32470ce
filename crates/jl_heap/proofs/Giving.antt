-- The values that a call moves: the top of a stack, read from the deepest up.
use Rattle.std.proofs.Common.{◌≡◌, ◌≤◌, ℕ, ◌-◌, List, ◌++◌, length, take, drop, reverse, ap, sym, ◌∙◌, arith}
use Rattle.std.proofs.Math.Seq.{take-append_seam, drop-append_seam}
use Rattle.std.proofs.lemmas.List.{take_rest, take-append-drop, reverse-append, reverse-reverse, length-reverse, length-drop}

-- the list turned round, cut so that so many of its first are its last
turned : {X : Type 0} (n : ℕ) (xs : List X) → reverse xs ≡ reverse (drop (length xs - n) xs) ++ reverse (take (length xs - n) xs)
turned n xs = ap reverse (sym (take-append-drop (length xs - n) xs)) ∙ reverse-append (take (length xs - n) xs) (drop (length xs - n) xs)

back : (n m : ℕ) → n ≤ m → m - (m - n) ≡ n
back n m le = omega (arith, le)

cut : {X : Type 0} (n : ℕ) (xs : List X) → n ≤ length xs → length (reverse (drop (length xs - n) xs)) ≡ n
cut n xs le = length-reverse (drop (length xs - n) xs) ∙ (length-drop (length xs - n) xs ∙ back n (length xs) le)

-- what stays on the stack
pub stay : {X : Type 0} (n : ℕ) (xs : List X) → n ≤ length xs → reverse (take (length xs - n) xs) ≡ drop n (reverse xs)
stay n xs le =
    let b : List _ = reverse (drop (length xs - n) xs) in
    let a : List _ = reverse (take (length xs - n) xs) in
    sym (ap (λ m. drop m (reverse xs)) (sym (cut n xs le)) ∙ (ap (drop (length b)) (turned n xs) ∙ drop-append_seam b a))

-- what moves
pub moved : {X : Type 0} (n : ℕ) (xs : List X) → n ≤ length xs → drop (length xs - n) xs ≡ reverse (take n (reverse xs))
moved n xs le =
    let b : List _ = reverse (drop (length xs - n) xs) in
    let a : List _ = reverse (take (length xs - n) xs) in
    sym (ap (λ m. reverse (take m (reverse xs))) (sym (cut n xs le)) ∙ (ap (λ l. reverse (take (length b) l)) (turned n xs) ∙ (ap reverse (take-append_seam b a) ∙ reverse-reverse (drop (length xs - n) xs))))

-- the same as a slice
pub sliced : {X : Type 0} (n : ℕ) (xs : List X) → n ≤ length xs → take (length xs - (length xs - n)) (drop (length xs - n) xs) ≡ reverse (take n (reverse xs))
sliced n xs le = take_rest xs (length xs - n) ∙ moved n xs le

-- a list that was written over from its start on, over its whole length
pub whole : {X : Type 0} (n : ℕ) (xs ys : List X) → n ≡ length xs → take n (xs ++ ys) ≡ xs
whole n xs ys e = ap (λ m. take m (xs ++ ys)) e ∙ take-append_seam xs ys

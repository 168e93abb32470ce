-- Stacks as lists whose last item is the top (JVMS 4.10.1.4).
use Rattle.std.proofs.Common.{◌≡◌, ◌<◌, ◌≤◌, ◌-◌, ℕ, List, length, take, drop, reverse, take-append-drop, length-drop, sym, ◌∙◌, ap, ⊎_elim, arith}
use Rattle.std.proofs.lemmas.Bool.{cases_lt}
use Rattle.std.proofs.lemmas.List.{reverse-append, length-reverse, drop_at, drop_all}
use Rattle.jl_vtypes.specs.declared.item.Item.{Item}

-- the slots that are left when some are taken from the top
pub left_of : (xs : List Item) (n k : ℕ) → k ≡ length xs - n → reverse (take k xs) ≡ drop n (reverse xs)
left_of xs n k is =
    ⊎_elim
    (λ (lt : length xs < n).
    let e : k ≡ 0 = omega arith in
    ap (λ (j : ℕ). reverse (take j xs)) e ∙ sym (drop_all n (reverse xs) (omega (arith, length-reverse xs))))
    (λ (le : n ≤ length xs).
    let long : length (reverse (drop k xs)) ≡ n = length-reverse (drop k xs) ∙ length-drop k xs ∙ (let e : length xs - k ≡ n = omega arith in e) in
    sym (drop_at (reverse (drop k xs)) (reverse (take k xs)) n long)
    ∙ sym (ap (drop n) (reverse-append (take k xs) (drop k xs)))
    ∙ ap (λ (ys : List Item). drop n (reverse ys)) (take-append-drop k xs))
    (cases_lt (length xs) n)

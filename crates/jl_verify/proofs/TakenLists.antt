-- What is taken, as lists: one want more, and the parameters of a method from the last on (JVMS 4.10.1.9).
use Rattle.std.proofs.Common.{◌≡◌, ◌+◌, ◌<◌, ℕ, List, [], ◌∷◌, ◌++◌, length, length-append, replicate, sym, ◌∙◌, ap, append-nil, append_assoc, arith}
use Rattle.std.proofs.lemmas.List.{map_push, replicate_more}
use Rattle.jl_vtypes.specs.declared.item.Item.{Item}
use Rattle.jl_verify.specs.declared.want.Want.{Want}
use Rattle.jl_verify.specs.declared.want.Wanted.{Wanted}
use Rattle.jl_verify.specs.declared.want.Wanted.TheVariants.{Says}
use Rattle.jl_verify.specs.Moves.{says, taken_as, arguments_of}

-- one slot more with the same want
pub says_more : (n : ℕ) (w : Want) → says (replicate n w) ++ Says w ∷ [] ≡ says (replicate (n + 1) w)
says_more n w = sym (map_push Says (replicate n w) w) ∙ ap says (replicate_more n w)

-- the last parameter is taken first
pub arguments_last : (xs : List Item) (x : Item) → arguments_of (xs ++ x ∷ []) ≡ taken_as x ++ arguments_of xs
arguments_last [] x = sym (append-nil (taken_as x))
arguments_last (y ∷ ys) x = ap (λ (ws : List Wanted). ws ++ taken_as y) (arguments_last ys x) ∙ append_assoc (taken_as x) (arguments_of ys) (taken_as y)

-- a parameter that is popped, and then the others
pub arguments_next : (all : List Wanted) (old new : List Item) (x : Item) → old ≡ new ++ x ∷ [] → (all ++ taken_as x) ++ arguments_of new ≡ all ++ arguments_of old
arguments_next all old new x e = append_assoc all (taken_as x) (arguments_of new) ∙ ap (λ (ws : List Wanted). all ++ ws) (sym (arguments_last new x) ∙ sym (ap arguments_of e))

-- there are fewer
pub fewer : (old new : List Item) (x : Item) → old ≡ new ++ x ∷ [] → length new < length old
fewer old new x e = omega (arith, ap length e, length-append new (x ∷ []))

-- Names that are the same, and names in order.
use Rattle.std.proofs.Common.{◌≡◌, ℕ, List, refl, ◌∙◌, ap, true, false, Less, Equal, Greater}
use Rattle.std.specs.Ordering.{ordering_reverse, is_eq}
use Rattle.std.specs.Cmp.Lexicographic.{bytes_decides, texts_ties, nat_list_cmp_total}
use Rattle.jl_logic.specs.Order.{name_cmp, is_text}

pub text_is : (a b : List ℕ) → is_text a b ≡ true → a ≡ b
text_is a b e = (bytes_decides a b).0 e

pub text_itself : (a : List ℕ) → is_text a a ≡ true
text_itself a = (bytes_decides a a).1 refl

pub text_differs : (a b : List ℕ) → is_text a b ≡ false → a ≡ b → ⊥
text_differs a b e f = let g : is_text a b ≡ true = (bytes_decides a b).1 f in absurd cc

pub greater_other : (a b : List ℕ) → name_cmp a b ≡ Greater → is_text a b ≡ false
greater_other a b e = texts_ties a b ∙ ap is_eq e

pub less_other : (a b : List ℕ) → name_cmp a b ≡ Less → is_text a b ≡ false
less_other a b e = texts_ties a b ∙ ap is_eq e

pub tied_text : (a b : List ℕ) → name_cmp a b ≡ Equal → is_text a b ≡ true
tied_text a b e = texts_ties a b ∙ ap is_eq e

pub names_exact : (a b : List ℕ) → name_cmp a b ≡ Equal → a ≡ b
names_exact a b e = text_is a b (tied_text a b e)

pub greater_back : (a b : List ℕ) → name_cmp a b ≡ Greater → name_cmp b a ≡ Less
greater_back a b e = nat_list_cmp_total.antisymm b a ∙ ap ordering_reverse e

-- Members of one table that are apart.
use Rattle.std.proofs.Common.{◌≡◌, Bool, true, false, List, ◌∷◌, [], ◌++◌, map, refl, sym, ap, subst, inl, inr, arith}
use Rattle.std.specs.Prelude.{◌||◌, Contains}
use Rattle.std.specs.List.{list_any}
use Rattle.std.specs.Cmp.Lexicographic.{bytes_decides}
use Rattle.std.proofs.lemmas.Bool.{or_parts}
use Rattle.std.proofs.lemmas.List.{map_push}
use Rattle.std.proofs.lemmas.List.Elements.{Contains-append_cases}
use Rattle.jl_logic.specs.Lists.{AreDistinct}
use Rattle.jl_logic.proofs.Apart.{single, distinct_push}
use Rattle.jl_class.specs.declared.member.MemberKey.{MemberKey}
use Rattle.jl_class.specs.Meaning.{is_same_member, is_member_among}

same_self : (a : MemberKey) → is_same_member a a ≡ true
same_self a = rw ((bytes_decides a.name a.name).1 refl, (bytes_decides a.desc a.desc).1 refl) refl

same_as : (a b : MemberKey) → a ≡ b → is_same_member a b ≡ true
same_as a b e = subst (λ k. is_same_member a k ≡ true) e (same_self a)

not_among : (key : MemberKey) (keys : List MemberKey) → is_member_among key keys ≡ false → Contains keys key → ⊥
not_among key [] e c = absurd (omega (arith, c.1))
not_among key (k ∷ ks) e c =
    let none = or_parts (is_same_member key k) (is_member_among key ks) e in
    elim (Contains-append_cases (k ∷ []) ks key c) [
      | inl here ↦ let it : is_same_member key k ≡ true = same_as key k (sym (single k key here)) in absurd cc
      | inr there ↦ not_among key ks none.1 there
    ]

-- one more member, which is none of those before it
pub distinct_members : {B : Type 0} (key : B → MemberKey) (xs : List B) (x : B) → AreDistinct (map key xs) → is_member_among (key x) (map key xs) ≡ false → AreDistinct (map key (xs ++ x ∷ []))
distinct_members key xs x d fresh = subst AreDistinct (sym (map_push key xs x)) (distinct_push (map key xs) (key x) d (not_among (key x) (map key xs) fresh))

pub any_mapped : {A B : Type 0} (p : B → Bool) (f : A → B) (xs : List A) → list_any (λ x. p (f x)) xs ≡ list_any p (map f xs)
any_mapped p f [] = refl
any_mapped p f (x ∷ xs) = ap (λ (b : Bool). p (f x) || b) (any_mapped p f xs)

-- Members that are apart, by their names and descriptors.
use Rattle.std.proofs.Common.{◌≡◌, Bool, true, false, List, ◌∷◌, [], ◌++◌, map, append_assoc, refl, sym, subst, inl, inr, arith}
use Rattle.std.specs.Prelude.{◌||◌, Contains}
use Rattle.std.specs.Cmp.Lexicographic.{bytes_decides}
use Rattle.std.proofs.lemmas.List.{append-nil, map_push, map-append}
use Rattle.std.proofs.lemmas.List.Elements.{Contains-append_cases, Contains-append_right}
use Rattle.std.proofs.lemmas.Bool.{and_parts, or_parts}
use Rattle.indexmap.specs.IndexSet.{insert_key}
use Rattle.jl_logic.specs.Lists.{AreDistinct}
use Rattle.jl_logic.specs.Order.{is_text}
use Rattle.jl_logic.proofs.Apart.{contains_first, single, distinct_push, distinct_apart}
use Rattle.jl_reading.proofs.Stands.{Along}
use Rattle.jl_class.specs.declared.member.MemberKey.{MemberKey}
use Rattle.jl_class.specs.Meaning.{is_same_member, is_member_among}

-- a member that is none of them comes behind them
pub inserted : (keys : List MemberKey) (key : MemberKey) → is_member_among key keys ≡ false → insert_key is_same_member keys key ≡ keys ++ key ∷ []
inserted keys key fresh = rw fresh refl

-- ---- the same member

same_is : (a b : MemberKey) → is_same_member a b ≡ true → a ≡ b
same_is a b e =
    let t = and_parts (is_text a.name b.name) (is_text a.desc b.desc) e in
    let name : a.name ≡ b.name = (bytes_decides a.name b.name).0 t.0 in
    let desc : a.desc ≡ b.desc = (bytes_decides a.desc b.desc).0 t.1 in
    λ i. record { name = name i; desc = desc i }

same_self : (a : MemberKey) → is_same_member a a ≡ true
same_self a = rw ((bytes_decides a.name a.name).1 refl, (bytes_decides a.desc a.desc).1 refl) refl

same_as : (a b : MemberKey) → a ≡ b → is_same_member a b ≡ true
same_as a b e = subst (λ k. is_same_member a k ≡ true) e (same_self a)

-- ---- whether a member is among others

not_among : (key : MemberKey) (keys : List MemberKey) → is_member_among key keys ≡ false → Contains keys key → ⊥
not_among key [] e c = absurd (omega (arith, c.1))
not_among key (k ∷ ks) e c =
    let none = or_parts (is_same_member key k) (is_member_among key ks) e in
    elim (Contains-append_cases (k ∷ []) ks key c) [
      | inl here ↦ let it : is_same_member key k ≡ true = same_as key k (sym (single k key here)) in absurd cc
      | inr there ↦ not_among key ks none.1 there
    ]

apart_by : (a b : Bool) → (a ≡ true → ⊥) → b ≡ false → (a || b) ≡ false
apart_by true b n e = absurd (n refl)
apart_by false b n e = e

among_not : (key : MemberKey) (keys : List MemberKey) → (Contains keys key → ⊥) → is_member_among key keys ≡ false
among_not key [] none = refl
among_not key (k ∷ ks) none =
    apart_by (is_same_member key k) (is_member_among key ks) (λ e. none (contains_first key k ks (sym (same_is key k e))))
    (among_not key ks (λ c. none (Contains-append_right (k ∷ []) ks key c)))

-- ---- members of which each is apart from those before it

abbrev pub Apart : {B : Type 0} → (B → MemberKey) → List B → B → Type 0
Apart key done x = is_member_among (key x) (map key done) ≡ false

pub along_distinct : {B : Type 0} (key : B → MemberKey) (done members : List B) → Along (Apart key) done members → AreDistinct (map key done) → AreDistinct (map key (done ++ members))
along_distinct key done [] a d = subst (λ all. AreDistinct (map key all)) (sym (append-nil done)) d
along_distinct key done (x ∷ xs) a d =
    let pushed : AreDistinct (map key (done ++ x ∷ [])) = subst AreDistinct (sym (map_push key done x)) (distinct_push (map key done) (key x) d (not_among (key x) (map key done) a.0)) in
    subst (λ all. AreDistinct (map key all)) (append_assoc done (x ∷ []) xs) (along_distinct key (done ++ x ∷ []) xs a.1 pushed)

pub distinct_along : {B : Type 0} (key : B → MemberKey) (done members : List B) → AreDistinct (map key (done ++ members)) → Along (Apart key) done members
distinct_along key done [] d = tt
distinct_along key done (x ∷ xs) d =
    let split : map key (done ++ x ∷ xs) ≡ map key done ++ key x ∷ map key xs = map-append key done (x ∷ xs) in
    let fresh = among_not (key x) (map key done) (distinct_apart (map key done) (key x) (map key xs) (subst AreDistinct split d)) in
    (fresh, distinct_along key (done ++ x ∷ []) xs (subst (λ all. AreDistinct (map key all)) (sym (append_assoc done (x ∷ []) xs)) d))

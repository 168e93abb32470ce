-- Members that are found where they are noted.
use Rattle.std.proofs.Common.{◌≡◌, ℕ, zero, suc, Bool, true, false, List, [], ◌∷◌, ◌++◌, length, map, take, slice_get, Option, None, Some, refl, sym, ap, subst, ◌∙◌, arith, inl, inr}
use Rattle.std.specs.Prelude.{◌⊎◌, if◌then◌else◌}
use Rattle.std.specs.List.{list_any}
use Rattle.std.specs.Cmp.Lexicographic.{bytes_decides}
use Rattle.std.proofs.lemmas.Bool.{cases_Bool, and_parts, or_parts}
use Rattle.std.proofs.lemmas.List.{map_push, length-map}
use Rattle.indexmap.specs.IndexMap.{IndexMap}
use Rattle.jl_logic.specs.Order.{is_text}
use Rattle.jl_class.specs.declared.member.MemberKey.{MemberKey}
use Rattle.jl_class.specs.Meaning.{is_same_member, is_member_among}
use Rattle.jl_classw.specs.Hints.{place_of, AreFound, is_that, stands_noted}

-- ---- what stands at an index

pub get_push : {X : Type 0} (xs : List X) (x : X) (i : ℕ) (y : X) → slice_get (xs ++ x ∷ []) i ≡ Some y → (slice_get xs i ≡ Some y) ⊎ ((length xs ≡ i) × (x ≡ y))
get_push [] x zero y e = inr (refl, (let h : Some x ≡ Some y = e in cc))
get_push [] x (suc i) y e = absurd cc
get_push (z ∷ xs) x zero y e = inl e
get_push (z ∷ xs) x (suc i) y e = elim (get_push xs x i y e) [
  | inl h ↦ inl h
  | inr h ↦ inr (omega (arith, h.0), h.1)
]

none_at : {X : Type 0} (p : X → Bool) (xs : List X) (i : ℕ) (x : X) → list_any p xs ≡ false → slice_get xs i ≡ Some x → p x ≡ false
none_at p [] i x none e = absurd cc
none_at p (y ∷ xs) zero x none e = let h : Some y ≡ Some x = e in let same : y ≡ x = cc in ap p (sym same) ∙ (or_parts (p y) (list_any p xs) none).0
none_at p (y ∷ xs) (suc i) x none e = none_at p xs i x (or_parts (p y) (list_any p xs) none).1 e

any_at : {X : Type 0} (p : X → Bool) (xs : List X) → list_any p xs ≡ true → (i : ℕ) × (x : X) × (slice_get xs i ≡ Some x) × (p x ≡ true)
any_at p [] e = absurd cc
any_at p (y ∷ xs) e = elim (cases_Bool (p y)) [
  | inl t ↦ (0, y, refl, t)
  | inr f ↦ let h = any_at p xs (rw f at e) in (suc h.0, h.1, h.2, h.3)
]

pub get_taken : {X Y : Type 0} (f : X → Y) (n : ℕ) (xs : List X) (i : ℕ) (y : Y) → slice_get (map f (take n xs)) i ≡ Some y → slice_get (map f xs) i ≡ Some y
get_taken f zero xs i y e = absurd cc
get_taken f (suc n) [] i y e = absurd cc
get_taken f (suc n) (x ∷ xs) zero y e = e
get_taken f (suc n) (x ∷ xs) (suc i) y e = get_taken f n xs i y e

-- ---- the same member

member_is : (a b : MemberKey) → is_same_member a b ≡ true → a ≡ b
member_is a b e =
    let t = and_parts (is_text a.name b.name) (is_text a.desc b.desc) e in
    let name : a.name ≡ b.name = (bytes_decides a.name b.name).0 t.0 in
    let desc : a.desc ≡ b.desc = (bytes_decides a.desc b.desc).0 t.1 in
    λ i. record { name = name i; desc = desc i }

member_self : (a : MemberKey) → is_same_member a a ≡ true
member_self a = rw ((bytes_decides a.name a.name).1 refl, (bytes_decides a.desc a.desc).1 refl) refl

-- ---- members that are found

noted_if : Bool → ℕ → Option ℕ → Option ℕ
noted_if b n o = if b then Some n else o

module _ {S T : Type 0} (old new : IndexMap (List ℕ) (IndexMap (List ℕ) ℕ S) T) (keys : List MemberKey) (key : MemberKey) (found : AreFound old keys) (fresh : is_member_among key keys ≡ false)
    (noted : (k : MemberKey) → place_of new k ≡ (if is_same_member key k then Some (length keys) else place_of old k)) where
  -- a note of a member that is none of them changes nothing for them
  pub found_still : AreFound new keys
  unfolding noted_if
  found_still = λ k i e. noted k ∙ (ap (λ (b : Bool). noted_if b (length keys) (place_of old k)) (none_at (is_same_member key) keys i k fresh e) ∙ found k i e)

  at_end : (k : MemberKey) (i : ℕ) → length keys ≡ i → key ≡ k → place_of new k ≡ Some i
  unfolding noted_if
  at_end k i last same = noted k ∙ (ap (λ (b : Bool). noted_if b (length keys) (place_of old k)) (subst (λ (m : MemberKey). is_same_member key m ≡ true) same (member_self key)) ∙ ap (λ (n : ℕ). Some n) last)

  -- and makes it found behind them
  pub found_more : AreFound new (keys ++ key ∷ [])
  found_more = λ k i e. elim (get_push keys key i k e) [
    | inl h ↦ found_still k i h
    | inr h ↦ at_end k i h.0 h.1
  ]

not_noted : (keys : List MemberKey) (o : Option ℕ) (key : MemberKey) → is_member_among key keys ≡ false → false ≡ stands_noted keys o key
not_noted keys None key none = refl
not_noted keys (Some i) key none = by (slice_get keys i) refl
  where
    by : (o : Option MemberKey) → slice_get keys i ≡ o → false ≡ is_that key o
    by None e = refl
    by (Some k) e = sym (none_at (is_same_member key) keys i k none e)

-- a member is among them where it stands where it is noted
pub has_is : {S T : Type 0} (places : IndexMap (List ℕ) (IndexMap (List ℕ) ℕ S) T) (keys : List MemberKey) → AreFound places keys → (key : MemberKey) → is_member_among key keys ≡ stands_noted keys (place_of places key) key
has_is places keys found key = elim (cases_Bool (is_member_among key keys)) [
  | inl t ↦
      let h = any_at (is_same_member key) keys t in
      let same : key ≡ h.1 = member_is key h.1 h.3 in
      let here : place_of places key ≡ Some h.0 = ap (place_of places) same ∙ found h.1 h.0 h.2 in
      t ∙ sym (ap (λ (o : Option ℕ). stands_noted keys o key) here ∙ (ap (is_that key) h.2 ∙ h.3))
  | inr f ↦ f ∙ not_noted keys (place_of places key) key f
]

-- ---- tables

module _ {X S T : Type 0} (key : X → MemberKey) where
  counted : (old new : IndexMap (List ℕ) (IndexMap (List ℕ) ℕ S) T) (xs : List X) (x : X) → ((k : MemberKey) → place_of new k ≡ (if is_same_member (key x) k then Some (length xs) else place_of old k))
      → (k : MemberKey) → place_of new k ≡ (if is_same_member (key x) k then Some (length (map key xs)) else place_of old k)
  unfolding noted_if
  counted old new xs x noted = λ k. noted k ∙ ap (λ (n : ℕ). noted_if (is_same_member (key x) k) n (place_of old k)) (sym (length-map xs key))

  pub found_push : (old new : IndexMap (List ℕ) (IndexMap (List ℕ) ℕ S) T) (xs ys : List X) (x : X) → AreFound old (map key xs) → is_member_among (key x) (map key xs) ≡ false
      → ((k : MemberKey) → place_of new k ≡ (if is_same_member (key x) k then Some (length xs) else place_of old k)) → ys ≡ xs ++ x ∷ [] → AreFound new (map key ys)
  found_push old new xs ys x found fresh noted is =
      subst (λ (all : List MemberKey). AreFound new all) (sym (ap (map key) is ∙ map_push key xs x)) (found_more old new (map key xs) (key x) found fresh (counted old new xs x noted))

  pub found_kept : (old new : IndexMap (List ℕ) (IndexMap (List ℕ) ℕ S) T) (xs ys : List X) (x : X) → AreFound old (map key xs) → is_member_among (key x) (map key xs) ≡ false
      → ((k : MemberKey) → place_of new k ≡ (if is_same_member (key x) k then Some (length xs) else place_of old k)) → ys ≡ xs → AreFound new (map key ys)
  found_kept old new xs ys x found fresh noted is =
      subst (λ (all : List X). AreFound new (map key all)) (sym is) (found_still old new (map key xs) (key x) found fresh (counted old new xs x noted))

  pub found_taken : (places : IndexMap (List ℕ) (IndexMap (List ℕ) ℕ S) T) (xs ys : List X) (n : ℕ) → AreFound places (map key xs) → ys ≡ take n xs → AreFound places (map key ys)
  found_taken places xs ys n found is = λ k i e. found k i (get_taken key n xs i k (subst (λ (all : List X). slice_get (map key all) i ≡ Some k) is e))

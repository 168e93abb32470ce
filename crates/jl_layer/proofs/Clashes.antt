-- The first two of claims in order that clash are the least (`java.lang.LayerInstantiationException`).
use Rattle.std.proofs.Common.{◌≡◌, ◌≢◌, ◌⊎◌, ◌<◌, ◌≤◌, ◌==◌, ℕ, suc, List, [], ◌∷◌, length, get_or, Option, Some, None, Bool, true, false, true≢false, if◌then◌else◌, inl, inr, eqb-true, refl, sym, ◌∙◌, ap, subst, MatchOption, IsSorted, Ordering, Less, Equal, Greater, is_eq, is_lt, is_gt, nat_cmp, arith}
use Rattle.std.specs.Prelude.{Contains, ⊤}
use Rattle.std.specs.Ordering.{ordering_then, ordering_reverse}
use Rattle.std.specs.Cmp.{IsTotalOrder}
use Rattle.std.specs.Cmp.Lexicographic.{bytes_decides, texts_ties, nat_list_cmp_total, slice_cmp}
use Rattle.std.proofs.lemmas.Bool.{eqb-false}
use Rattle.std.proofs.lemmas.Cmp.{nat_cmp_total, on_total, then_total, lists_total, tied_itself, upto}
use Rattle.std.proofs.lemmas.List.Sorted.{ranks_by, sorted_far}
use Rattle.jl_logic.specs.Order.{is_text, name_cmp, IsLeast}
use Rattle.jl_logic.proofs.Rising.{contains_head, contains_tail, contains_nothing, contains_cases, apart_from_total}
use Rattle.jl_layer.specs.declared.claims.Claim.{Claim}
use Rattle.jl_layer.specs.declared.claims.Clash.{Clash}
use Rattle.jl_layer.specs.Claims.{claim_cmp, IsClashOf, clash_cmp, clash_from, clash_in, clash_of}

-- ---- names in order

same_name : (a b : List ℕ) → name_cmp a b ≡ Equal → a ≡ b
same_name a b e = (bytes_decides a b).0 (texts_ties a b ∙ ap is_eq e)

not_both : (a b : List ℕ) → name_cmp a b ≡ Less → name_cmp b a ≡ Less → ⊥
not_both = apart_from_total name_cmp nat_list_cmp_total

not_itself : (a b : List ℕ) → name_cmp a b ≡ Less → a ≡ b → ⊥
not_itself a b l e = let f : name_cmp a a ≡ Less = subst (λ (n : List ℕ). name_cmp a n ≡ Less) (sym e) l in not_both a a f f

-- less, or the same
abbrev Upto : List ℕ → List ℕ → Type 0
Upto a b = (name_cmp a b ≡ Less) ⊎ (a ≡ b)

upto_unless : (a b : List ℕ) → (name_cmp b a ≡ Less → ⊥) → Upto a b
upto_unless a b h = by (name_cmp b a) refl
  where
    by : (o : Ordering) → name_cmp b a ≡ o → Upto a b
    by Less e = absurd (h e)
    by Equal e = inr (sym (same_name b a e))
    by Greater e = inl (nat_list_cmp_total.antisymm a b ∙ ap ordering_reverse e)

tie : (a b : List ℕ) → a ≡ b → name_cmp a b ≡ Equal
tie a b e = subst (λ (n : List ℕ). name_cmp a n ≡ Equal) e (tied_itself nat_list_cmp_total a)

-- ---- claims in order

-- the one stands before the other, by package and then by module
abbrev Before : Claim → Claim → Type 0
Before x y = (name_cmp x.«package» y.«package» ≡ Less) ⊎ ((x.«package» ≡ y.«package») × Upto x.name y.name)

before_unless : (x y : Claim) → is_lt (claim_cmp y x) ≡ false → Before x y
before_unless x y h = by (upto_unless x.«package» y.«package» (λ l. never (ap (λ (o : Ordering). ordering_then o (ordering_then (name_cmp y.name x.name) (nat_cmp y.owner x.owner))) l)))
  where
    never : claim_cmp y x ≡ Less → ⊥
    never l = true≢false (sym (ap is_lt l) ∙ h)

    tied : x.«package» ≡ y.«package» → claim_cmp y x ≡ ordering_then (name_cmp y.name x.name) (nat_cmp y.owner x.owner)
    tied e =
        ap (λ (o : Ordering). ordering_then o (ordering_then (name_cmp y.name x.name) (nat_cmp y.owner x.owner)))
        (subst (λ (n : List ℕ). name_cmp y.«package» n ≡ Equal) (sym e) (tied_itself nat_list_cmp_total y.«package»))

    by : Upto x.«package» y.«package» → Before x y
    by (inl l) = inl l
    by (inr e) = inr (e, upto_unless x.name y.name (λ l. never (tied e ∙ ap (λ (o : Ordering). ordering_then o (nat_cmp y.owner x.owner)) l)))

-- of one package
upto_before : (x y : Claim) → Before x y → x.«package» ≡ y.«package» → Upto x.name y.name
upto_before x y (inl l) e = absurd (not_itself x.«package» y.«package» l e)
upto_before x y (inr b) e = b.1

-- each claim stands before those behind it
abbrev Ascends : List Claim → Type 0
Ascends [] = ⊤
Ascends (x ∷ xs) = ((y : Claim) → Contains xs y → Before x y) × Ascends xs

ascends : (xs : List Claim) → ((i j : ℕ) (d : Claim) → i ≤ j → j < length xs → is_lt (claim_cmp (get_or xs j d) (get_or xs i d)) ≡ false) → Ascends xs
ascends [] h = tt
ascends (x ∷ xs) h = (
  (λ y c. before_unless x y (subst (λ (z : Claim). is_lt (claim_cmp z x) ≡ false) c.2 (h 0 (suc c.0) y (omega arith) (omega (arith, c.1))))),
  ascends xs (λ i j d le lt. h (suc i) (suc j) d (omega arith) (omega arith)),
)

claims_total : IsTotalOrder claim_cmp
claims_total =
    then_total (on_total (λ (x : Claim). x.«package») nat_list_cmp_total) (then_total (on_total (λ (x : Claim). x.name) nat_list_cmp_total) (on_total (λ (x : Claim). x.owner) nat_cmp_total))

sorted_ascends : (xs : List Claim) → IsSorted claim_cmp xs → Ascends xs
sorted_ascends xs sorted = ascends xs (λ i j d le lt. sorted_far (λ (x y : Claim). is_lt (claim_cmp x y)) (ranks_by claims_total (λ (x : Claim). x)) xs sorted i j d le lt)

-- ---- two claims that clash

record AreClashing (zs : List Claim) (x y : Claim) : Type 0 where
  one : Contains zs x
  other : Contains zs y
  same : x.«package» ≡ y.«package»
  apart : x.owner ≢ y.owner

clashes_total : IsTotalOrder clash_cmp
clashes_total = on_total (λ (c : Clash). c.«package» ∷ c.one ∷ c.other ∷ []) (lists_total nat_list_cmp_total)

abbrev NotGreater : Clash → Clash → Type 0
NotGreater c d = is_gt (clash_cmp c d) ≡ false

-- by the fields
not_greater : (c d : Clash) → (name_cmp c.«package» d.«package» ≡ Less) ⊎ ((c.«package» ≡ d.«package») × ((name_cmp c.one d.one ≡ Less) ⊎ ((c.one ≡ d.one) × Upto c.other d.other))) → NotGreater c d
not_greater c d (inl l) = ap (λ (o : Ordering). is_gt (ordering_then o (slice_cmp name_cmp (c.one ∷ c.other ∷ []) (d.one ∷ d.other ∷ [])))) l
not_greater c d (inr (e, inl l)) =
    ap (λ (o : Ordering). is_gt (ordering_then o (slice_cmp name_cmp (c.one ∷ c.other ∷ []) (d.one ∷ d.other ∷ [])))) (tie c.«package» d.«package» e)
    ∙ ap (λ (o : Ordering). is_gt (ordering_then o (slice_cmp name_cmp (c.other ∷ []) (d.other ∷ [])))) l
not_greater c d (inr (e, inr (f, inl l))) =
    ap (λ (o : Ordering). is_gt (ordering_then o (slice_cmp name_cmp (c.one ∷ c.other ∷ []) (d.one ∷ d.other ∷ [])))) (tie c.«package» d.«package» e)
    ∙ ap (λ (o : Ordering). is_gt (ordering_then o (slice_cmp name_cmp (c.other ∷ []) (d.other ∷ [])))) (tie c.one d.one f)
    ∙ ap (λ (o : Ordering). is_gt (ordering_then o (slice_cmp name_cmp [] []))) l
not_greater c d (inr (e, inr (f, inr g))) =
    ap (λ (o : Ordering). is_gt (ordering_then o (slice_cmp name_cmp (c.one ∷ c.other ∷ []) (d.one ∷ d.other ∷ [])))) (tie c.«package» d.«package» e)
    ∙ ap (λ (o : Ordering). is_gt (ordering_then o (slice_cmp name_cmp (c.other ∷ []) (d.other ∷ [])))) (tie c.one d.one f)
    ∙ ap (λ (o : Ordering). is_gt (ordering_then o (slice_cmp name_cmp [] []))) (tie c.other d.other g)

-- ---- what the search finds

-- no two clash, or these do and none before them
abbrev Decided : List Claim → Option (Claim × Claim) → Type 0
Decided zs None = (x y : Claim) → AreClashing zs x y → ⊥
Decided zs (Some p) = AreClashing zs p.0 p.1 × ((x y : Claim) → AreClashing zs x y → NotGreater (clash_of p) (clash_of (x, y)))

-- a claim in the place of another, with the same package and owner
record Stand (zs : List Claim) (x : Claim) : Type 0 where
  claim : Claim
  there : Contains zs claim
  of_package : claim.«package» ≡ x.«package»
  of_owner : claim.owner ≡ x.owner
  name : Upto claim.name x.name

module _ (first x : Claim) (xs : List Claim) (up : Ascends (first ∷ x ∷ xs)) where
  -- ---- the next claim is of the same package and owner

  module _ (same : x.«package» ≡ first.«package») (owner : x.owner ≡ first.owner) where
    stand : (y : Claim) → Contains (first ∷ x ∷ xs) y → Stand (first ∷ xs) y
    stand y c = elim (contains_cases first y (x ∷ xs) c) [
      | inl e ↦ itself y (subst (Contains (first ∷ xs)) e (contains_head first xs))
      | inr d ↦ elim (contains_cases x y xs d) [ inl e ↦ subst (Stand (first ∷ xs)) e for_next | inr k ↦ itself y (contains_tail first y xs k) ]
    ]
      where
        itself : (z : Claim) → Contains (first ∷ xs) z → Stand (first ∷ xs) z
        itself z there = record { claim = z; there = there; of_package = refl; of_owner = refl; name = inr refl }

        for_next : Stand (first ∷ xs) x
        for_next = record {
          claim = first;
          there = contains_head first xs;
          of_package = sym same;
          of_owner = sym owner;
          name = upto_before first x (up.0 x (contains_head x xs)) (sym same);
        }

    clash_stands : (y z : Claim) (h : AreClashing (first ∷ x ∷ xs) y z) → AreClashing (first ∷ xs) (stand y h.one).claim (stand z h.other).claim
    clash_stands y z h =
        let a = stand y h.one in
        let b = stand z h.other in
        record { one = a.there; other = b.there; same = a.of_package ∙ h.same ∙ sym b.of_package; apart = λ e. h.apart (sym a.of_owner ∙ e ∙ b.of_owner) }

    lesser : (y z : Claim) → Stand (first ∷ xs) y → Stand (first ∷ xs) z → (a b : Claim) → a.«package» ≡ y.«package» → Upto a.name y.name → Upto b.name z.name → NotGreater (clash_of (a, b)) (clash_of (y, z))
    lesser y z s t a b e (inl l) u = not_greater (clash_of (a, b)) (clash_of (y, z)) (inr (e, inl l))
    lesser y z s t a b e (inr i) u = not_greater (clash_of (a, b)) (clash_of (y, z)) (inr (e, inr (i, u)))

    decided_same : (o : Option (Claim × Claim)) → Decided (first ∷ xs) o → Decided (first ∷ x ∷ xs) o
    decided_same None none = λ y z h. none (stand y h.one).claim (stand z h.other).claim (clash_stands y z h)
    decided_same (Some p) (has, least) = (
      record { one = wider p.0 has.one; other = wider p.1 has.other; same = has.same; apart = has.apart },
      λ y z h.
          let a = stand y h.one in
          let b = stand z h.other in
          upto clashes_total (clash_of p) (clash_of (a.claim, b.claim)) (clash_of (y, z)) (least a.claim b.claim (clash_stands y z h)) (lesser y z a b a.claim b.claim a.of_package a.name b.name),
    )
      where
        wider : (y : Claim) → Contains (first ∷ xs) y → Contains (first ∷ x ∷ xs) y
        wider y c = elim (contains_cases first y xs c) [
          | inl e ↦ subst (Contains (first ∷ x ∷ xs)) e (contains_head first (x ∷ xs))
          | inr d ↦ contains_tail first y (x ∷ xs) (contains_tail x y xs d)
        ]

  -- the first stands before all of its package
  first_before : (y : Claim) → Contains (first ∷ x ∷ xs) y → Before first y
  first_before y c = elim (contains_cases first y (x ∷ xs) c) [ inl e ↦ subst (Before first) e (inr (refl, inr refl)) | inr d ↦ up.0 y d ]

  next_before : (y : Claim) → Contains (x ∷ xs) y → Before x y
  next_before y c = elim (contains_cases x y xs c) [ inl e ↦ subst (Before x) e (inr (refl, inr refl)) | inr d ↦ up.1.0 y d ]

  -- ---- it is of the same package, and of another owner

  module _ (same : x.«package» ≡ first.«package») (owner : x.owner ≢ first.owner) where
    second_upto : (y z : Claim) → AreClashing (first ∷ x ∷ xs) y z → first.«package» ≡ y.«package» → first.name ≡ y.name → Upto x.name z.name
    second_upto y z h e f = elim (contains_cases first z (x ∷ xs) h.other) [
      | inl i ↦ by_first i (contains_cases first y (x ∷ xs) h.one)
      | inr d ↦ upto_before x z (next_before z d) (same ∙ e ∙ h.same)
    ]
      where
        by_first : first ≡ z → (first ≡ y) ⊎ Contains (x ∷ xs) y → Upto x.name z.name
        by_first i (inl j) = absurd (h.apart (ap (λ (c : Claim). c.owner) (sym j ∙ i)))
        by_first i (inr d) = subst (Upto x.name) (sym f ∙ ap (λ (c : Claim). c.name) i) (upto_before x y (next_before y d) (same ∙ e))

    decided_here : Decided (first ∷ x ∷ xs) (Some (first, x))
    decided_here = (
      record { one = contains_head first (x ∷ xs); other = contains_tail first x (x ∷ xs) (contains_head x xs); same = sym same; apart = λ e. owner (sym e) },
      λ y z h. by y z h (first_before y h.one),
    )
      where
        named : (y z : Claim) → AreClashing (first ∷ x ∷ xs) y z → first.«package» ≡ y.«package» → Upto first.name y.name → NotGreater (clash_of (first, x)) (clash_of (y, z))
        named y z h e (inl l) = not_greater (clash_of (first, x)) (clash_of (y, z)) (inr (e, inl l))
        named y z h e (inr f) = not_greater (clash_of (first, x)) (clash_of (y, z)) (inr (e, inr (f, second_upto y z h e f)))

        by : (y z : Claim) → AreClashing (first ∷ x ∷ xs) y z → Before first y → NotGreater (clash_of (first, x)) (clash_of (y, z))
        by y z h (inl l) = not_greater (clash_of (first, x)) (clash_of (y, z)) (inl l)
        by y z h (inr b) = named y z h b.0 b.1

  -- ---- it is of another package

  module _ (other : x.«package» ≢ first.«package») where
    alone : (y : Claim) → Contains (x ∷ xs) y → first.«package» ≡ y.«package» → ⊥
    alone y c e = by (first_before x (contains_tail first x (x ∷ xs) (contains_head x xs))) (next_before y c)
      where
        by : Before first x → Before x y → ⊥
        by (inr b) k = other (sym b.0)
        by (inl l) (inr k) = other (k.0 ∙ sym e)
        by (inl l) (inl m) = not_both first.«package» x.«package» l (subst (λ (n : List ℕ). name_cmp x.«package» n ≡ Less) (sym e) m)

    behind : (y z : Claim) → AreClashing (first ∷ x ∷ xs) y z → AreClashing (x ∷ xs) y z
    behind y z h = by (contains_cases first y (x ∷ xs) h.one) (contains_cases first z (x ∷ xs) h.other)
      where
        by : (first ≡ y) ⊎ Contains (x ∷ xs) y → (first ≡ z) ⊎ Contains (x ∷ xs) z → AreClashing (x ∷ xs) y z
        by (inl e) (inl f) = absurd (h.apart (ap (λ (c : Claim). c.owner) (sym e ∙ f)))
        by (inl e) (inr d) = absurd (alone z d (ap (λ (c : Claim). c.«package») e ∙ h.same))
        by (inr c) (inl f) = absurd (alone y c (ap (λ (k : Claim). k.«package») f ∙ sym h.same))
        by (inr c) (inr d) = record { one = c; other = d; same = h.same; apart = h.apart }

    decided_other : (o : Option (Claim × Claim)) → Decided (x ∷ xs) o → Decided (first ∷ x ∷ xs) o
    decided_other None none = λ y z h. none y z (behind y z h)
    decided_other (Some p) (has, least) = (
      record { one = contains_tail first p.0 (x ∷ xs) has.one; other = contains_tail first p.1 (x ∷ xs) has.other; same = has.same; apart = has.apart },
      λ y z h. least y z (behind y z h),
    )

none_alone : (first : Claim) → Decided (first ∷ []) None
none_alone first y z h = elim (contains_cases first y [] h.one) [
  | inl e ↦ elim (contains_cases first z [] h.other) [ inl f ↦ h.apart (ap (λ (c : Claim). c.owner) (sym e ∙ f)) | inr d ↦ contains_nothing z d ]
  | inr d ↦ contains_nothing y d
]

decided_from : (first : Claim) (xs : List Claim) → Ascends (first ∷ xs) → Decided (first ∷ xs) (clash_from first xs)
decided_from first [] up = none_alone first
decided_from first (x ∷ xs) up = by (is_text x.«package» first.«package») refl (decided_from first xs without) (decided_from x xs up.1)
  where
    without : Ascends (first ∷ xs)
    without = ((λ y c. up.0 y (contains_tail x y xs c)), up.1.1)

    same_package : x.«package» ≡ first.«package» → (b : Bool) → (x.owner == first.owner) ≡ b → Decided (first ∷ xs) (clash_from first xs) → Decided (first ∷ x ∷ xs) (if b then clash_from first xs else Some (first, x))
    same_package e true i d = decided_same first x xs up e (eqb-true x.owner first.owner i) (clash_from first xs) d
    same_package e false i d = decided_here first x xs up e (eqb-false x.owner first.owner i)

    by : (b : Bool) → is_text x.«package» first.«package» ≡ b → Decided (first ∷ xs) (clash_from first xs) → Decided (x ∷ xs) (clash_from x xs)
        → Decided (first ∷ x ∷ xs) (if b then (if x.owner == first.owner then clash_from first xs else Some (first, x)) else clash_from x xs)
    by true i d k = same_package ((bytes_decides x.«package» first.«package»).0 i) (x.owner == first.owner) refl d
    by false i d k = decided_other first x xs up (λ e. true≢false (sym ((bytes_decides x.«package» first.«package»).1 e) ∙ i)) (clash_from x xs) k

decided : (claims : List Claim) → Ascends claims → Decided claims (clash_in claims)
decided [] up = λ y z h. contains_nothing y h.one
decided (x ∷ xs) up = decided_from x xs up

-- ---- the least clash

clashing : (claims : List Claim) (c : Clash) (h : IsClashOf claims c) → AreClashing claims h.0 h.1
clashing claims c h = record { one = h.2; other = h.3; same = h.4 ∙ sym h.5; apart = h.8 }

clash_is : (claims : List Claim) (c : Clash) (h : IsClashOf claims c) → clash_of (h.0, h.1) ≡ c
clash_is claims c h = λ i. record { «package» = h.4 i; one = h.6 i; other = h.7 i }

-- The search in sorted claims finds the least clash, or there is none.
pub clash_least : (claims : List Claim) → IsSorted claim_cmp claims → MatchOption (clash_in claims) ((c : Clash) → IsClashOf claims c → ⊥) (λ p. IsLeast clash_cmp (IsClashOf claims) (clash_of p))
clash_least claims sorted = by (clash_in claims) (decided claims (sorted_ascends claims sorted))
  where
    by : (o : Option (Claim × Claim)) → Decided claims o → MatchOption o ((c : Clash) → IsClashOf claims c → ⊥) (λ p. IsLeast clash_cmp (IsClashOf claims) (clash_of p))
    by None none = λ c h. none h.0 h.1 (clashing claims c h)
    by (Some p) (has, least) = record {
      has = (p.0, p.1, has.one, has.other, refl, sym has.same, refl, refl, has.apart);
      least = λ c h l.
          let k : NotGreater (clash_of p) c = subst (NotGreater (clash_of p)) (clash_is claims c h) (least h.0 h.1 (clashing claims c h)) in
          let g : clash_cmp (clash_of p) c ≡ Greater = clashes_total.antisymm (clash_of p) c ∙ ap ordering_reverse l in
          true≢false (sym (ap is_gt g) ∙ k);
    }

-- it is one of the members alone
pub clash_among : (claims others : List Claim) (c : Clash) → ((x : Claim) → Contains claims x → Contains others x) → IsClashOf claims c → IsClashOf others c
clash_among claims others c all (x, y, a, b, e, f, g, h, n) = (x, y, all x a, all y b, e, f, g, h, n)

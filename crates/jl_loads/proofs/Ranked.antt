-- What is kept of each class, where one class more comes behind.
use Rattle.std.proofs.Common.{◌≡◌, ◌<◌, ◌≤◌, ◌+◌, ◌-◌, ◌++◌, ◌⊎◌, inl, inr, ℕ, zero, suc, List, [], ◌∷◌, length, length-append, Option, Some, None, Bool, true, false, map, take, refl, sym, ◌∙◌, ap, ap₂, subst, arith, add-one}
use Rattle.std.specs.Prelude.{Contains, nat_lt}
use Rattle.std.specs.List.{flat_map, sum}
use Rattle.std.specs.Option.{option_map_or, option_and_then}
use Rattle.std.proofs.lemmas.Bool.{ltb-true, ltb-false}
use Rattle.std.proofs.lemmas.Option.{none-some}
use Rattle.jl_logic.proofs.Rising.{contains_head, contains_tail, contains_nothing}
use Rattle.jl_prim.specs.declared.numbers.ClassId.{ClassId}
use Rattle.jl_layer.specs.Layers.{numbered}
use Rattle.jl_loads.specs.declared.rank.Rank.{Rank}
use Rattle.jl_loads.specs.Ranks.{AreRanked, above_new, rank_of, rank_new, with_above}
use Rattle.jl_loads.specs.Worlds.{State, Loaded, IsClass, class_at, class_number, interfaces_of, super_of, above_by, each_once, superinterfaces, fields_before, methods_before, all_fields, all_methods}
use Rattle.jl_loads.specs.Laws.{AreSound}
use Rattle.jl_loads.proofs.Places.{numbered_there, numbered_kept, take_kept, flat_map_alike}
use Rattle.jl_loads.proofs.Once.{once_alike, once_twice}

-- supertypes have lower numbers
abbrev pub AreLow : List Loaded → Type 0
AreLow xs = (n : ℕ) (y : Loaded) → numbered xs n ≡ Some y → ((d : ClassId) → y.super ≡ Some d → d.0 < n) × ((d : ClassId) → Contains y.interfaces d → d.0 < n)

pub low_sound : (s : State) → AreSound s → AreLow s.classes
low_sound s sound n y e = let k = sound.classes (record { 0 = n }) y e in (λ d f. (k.super d f).1, λ d f. (k.interfaces d f).1)

-- ---- places behind a list

number_last : {X : Type 0} (xs : List X) (x : X) → numbered (xs ++ x ∷ []) (length xs + 1) ≡ Some x
number_last xs x = ap (numbered (xs ++ x ∷ [])) (add-one (length xs)) ∙ last xs
  where
    last : (ys : List _) → numbered (ys ++ x ∷ []) (suc (length ys)) ≡ Some x
    last [] = refl
    last (y ∷ ys) = last ys

take_whole : {X : Type 0} (xs : List X) → take (length xs) xs ≡ xs
take_whole [] = refl
take_whole (x ∷ xs) = ap (λ (l : List _). x ∷ l) (take_whole xs)

take_last : {X : Type 0} (xs : List X) (x : X) → take (length xs + 1 - 1) (xs ++ x ∷ []) ≡ xs
take_last xs x =
    let n : length xs + 1 - 1 ≡ length xs = omega arith in
    ap (λ (k : ℕ). take k (xs ++ x ∷ [])) n ∙ take_kept xs (xs ++ x ∷ []) (length xs) (x ∷ [], refl) (omega arith) ∙ take_whole xs

option_alike : (f g : ClassId → List ClassId) (o : Option ClassId) → ((d : ClassId) → o ≡ Some d → each_once (f d) ≡ each_once (g d)) → each_once (option_map_or f o []) ≡ each_once (option_map_or g o [])
option_alike f g None h = refl
option_alike f g (Some d) h = h d refl

option_same : (f g : ClassId → List ClassId) (o : Option ClassId) → ((d : ClassId) → o ≡ Some d → f d ≡ g d) → option_map_or f o [] ≡ option_map_or g o []
option_same f g None h = refl
option_same f g (Some d) h = h d refl

once_flat : (f g : ClassId → List ClassId) (is : List ClassId) → ((i : ClassId) → Contains is i → each_once (f i) ≡ each_once (g i)) → each_once (flat_map (λ i. f i ++ i ∷ []) is) ≡ each_once (flat_map (λ i. g i ++ i ∷ []) is)
once_flat f g [] h = refl
once_flat f g (i ∷ is) h =
    once_alike (f i ++ i ∷ []) (g i ++ i ∷ []) (flat_map (λ j. f j ++ j ∷ []) is) (flat_map (λ j. g j ++ j ∷ []) is)
    (once_alike (f i) (g i) (i ∷ []) (i ∷ []) (h i (contains_head i is)) refl)
    (once_flat f g is (λ j c. h j (contains_tail i j is c)))

-- ---- above a class that is not there

none_above : (m : ℕ) (s : State) (c : ClassId) → class_at s c ≡ None → above_by m s c ≡ []
unfolding above_by
none_above zero s c e = refl
none_above (suc n) s c e =
    ap (λ (o : Option Loaded). flat_map (λ (i : ClassId). above_by n s i ++ i ∷ []) (option_map_or (λ (y : Loaded). y.interfaces) o []) ++ option_map_or (above_by n s) (option_and_then (λ (y : Loaded). y.super) o) []) e

no_superinterfaces : (s : State) (c : ClassId) → class_at s c ≡ None → superinterfaces s c ≡ []
unfolding each_once
no_superinterfaces s c e = ap each_once (none_above c.0 s c e)

pub no_above : (s : State) (c : ClassId) → (c.0 ≡ 0) ⊎ (length s.classes < c.0) → [] ≡ superinterfaces s c
no_above s c (inl e) = sym (no_superinterfaces s c (ap (numbered s.classes) e))
no_above s c (inr lt) = sym (no_superinterfaces s c (by (class_at s c) refl))
  where
    by : (o : Option Loaded) → class_at s c ≡ o → class_at s c ≡ None
    by None e = e
    by (Some x) e = let r = numbered_there s.classes c.0 x e in absurd (omega (arith, lt, r.1))

none_at : (s : State) (c : ClassId) → c.0 ≤ 0 → class_at s c ≡ None
none_at s c le = let e : c.0 ≡ 0 = omega arith in ap (numbered s.classes) e

-- ---- one class more

module _ (s t : State) (x : Loaded) (more : t.classes ≡ s.classes ++ x ∷ []) (low : AreLow t.classes) where
  super_low : (c d : ClassId) → super_of t c ≡ Some d → d.0 < c.0
  super_low c d e = by (class_at t c) refl e
    where
      by : (o : Option Loaded) → class_at t c ≡ o → option_and_then (λ (y : Loaded). y.super) o ≡ Some d → d.0 < c.0
      by None i f = absurd (none-some d f)
      by (Some y) i f = (low c.0 y i).0 d f

  interface_low : (c d : ClassId) → Contains (interfaces_of t c) d → d.0 < c.0
  interface_low c d h = by (class_at t c) refl h
    where
      by : (o : Option Loaded) → class_at t c ≡ o → Contains (option_map_or (λ (y : Loaded). y.interfaces) o []) d → d.0 < c.0
      by None i f = contains_nothing d f
      by (Some y) i f = (low c.0 y i).1 d f

  above_same : (n m : ℕ) (c : ClassId) → c.0 ≤ n → c.0 ≤ m → c.0 ≤ length s.classes → above_by n t c ≡ above_by m s c
  unfolding above_by
  above_same zero m c le be there = sym (none_above m s c (none_at s c le))
  above_same (suc n) zero c le be there = none_above (suc n) t c (none_at t c be)
  above_same (suc n) (suc m) c le be there =
      ap₂ (λ (u v : List ClassId). u ++ v)
      (flat_map_alike (λ i. above_by n t i ++ i ∷ []) (λ i. above_by m s i ++ i ∷ []) (interfaces_of t c)
      (λ i h. let lt : i.0 < c.0 = interface_low c i h in ap (λ (u : List ClassId). u ++ i ∷ []) (above_same n m i (omega arith) (omega arith) (omega arith))))
      (option_same (above_by n t) (above_by m s) (super_of t c) (λ d e. let lt : d.0 < c.0 = super_low c d e in above_same n m d (omega arith) (omega arith) (omega arith)))
      ∙ ap (λ (o : Option Loaded). flat_map (λ (i : ClassId). above_by m s i ++ i ∷ []) (option_map_or (λ (y : Loaded). y.interfaces) o []) ++ option_map_or (above_by m s) (option_and_then (λ (y : Loaded). y.super) o) [])
      (numbered_kept s.classes t.classes c.0 (x ∷ [], more) there)

  same_above : (c : ClassId) → c.0 ≤ length s.classes → superinterfaces t c ≡ superinterfaces s c
  same_above c there = ap each_once (above_same c.0 c.0 c (omega arith) (omega arith) there)

  within_above : (c : ClassId) → c.0 ≤ length s.classes → each_once (above_by (length s.classes) t c) ≡ each_once (superinterfaces s c)
  within_above c there = ap each_once (above_same (length s.classes) c.0 c there (omega arith) there) ∙ sym (once_twice (above_by c.0 s c))

  last_at : class_at t (class_number (length s.classes)) ≡ Some x
  last_at = ap (λ (l : List Loaded). numbered l (length s.classes + 1)) more ∙ number_last s.classes x

  last_above : superinterfaces t (class_number (length s.classes)) ≡ above_new s x
  unfolding above_by
  last_above =
      ap (λ (n : ℕ). each_once (above_by n t (class_number (length s.classes)))) (add-one (length s.classes))
      ∙ ap (λ (o : Option Loaded). each_once (flat_map (λ (i : ClassId). above_by (length s.classes) t i ++ i ∷ []) (option_map_or (λ (y : Loaded). y.interfaces) o []) ++ option_map_or (above_by (length s.classes) t) (option_and_then (λ (y : Loaded). y.super) o) [])) last_at
      ∙ once_alike (flat_map (λ i. above_by (length s.classes) t i ++ i ∷ []) x.interfaces) (with_above s x.interfaces) (option_map_or (above_by (length s.classes) t) x.super []) (option_map_or (superinterfaces s) x.super [])
      (once_flat (above_by (length s.classes) t) (superinterfaces s) x.interfaces (λ i h. let lt : i.0 < length s.classes + 1 = (low (length s.classes + 1) x last_at).1 i h in within_above i (omega arith)))
      (option_alike (above_by (length s.classes) t) (superinterfaces s) x.super (λ d e. let lt : d.0 < length s.classes + 1 = (low (length s.classes + 1) x last_at).0 d e in within_above d (omega arith)))

  taken_before : (n : ℕ) → n ≤ length s.classes → take n t.classes ≡ take n s.classes
  taken_before n le = take_kept s.classes t.classes n (x ∷ [], more) le

  taken_last : take (length s.classes + 1 - 1) t.classes ≡ s.classes
  taken_last = ap (take (length s.classes + 1 - 1)) more ∙ take_last s.classes x

  rank_by : (us vs : List ClassId) (f g m n : ℕ) → us ≡ vs → f ≡ g → m ≡ n → (let r : Rank = record { above = us; fields = f; methods = m } in r) ≡ record { above = vs; fields = g; methods = n }
  rank_by us vs f g m n above fields methods =
      ap₂ (λ (cs : List ClassId) (k : ℕ). let r : Rank = record { above = cs; fields = k; methods = m } in r) above fields
      ∙ ap (λ (k : ℕ). let r : Rank = record { above = vs; fields = g; methods = k } in r) methods

  same_rank : (c : ClassId) → c.0 ≤ length s.classes → rank_of s c ≡ rank_of t c
  same_rank c there =
      let taken : take (c.0 - 1) s.classes ≡ take (c.0 - 1) t.classes = sym (taken_before (c.0 - 1) (omega arith)) in
      rank_by (superinterfaces s c) (superinterfaces t c) (fields_before s c) (fields_before t c) (methods_before s c) (methods_before t c)
      (sym (same_above c there))
      (ap (λ (l : List Loaded). sum (map (λ (y : Loaded). length y.declared.fields) l)) taken)
      (ap (λ (l : List Loaded). sum (map (λ (y : Loaded). length y.declared.methods) l)) taken)

  last_rank : rank_new s x ≡ rank_of t (class_number (length s.classes))
  last_rank =
      rank_by (above_new s x) (superinterfaces t (class_number (length s.classes))) (all_fields s) (fields_before t (class_number (length s.classes))) (all_methods s) (methods_before t (class_number (length s.classes)))
      (sym last_above)
      (ap (λ (l : List Loaded). sum (map (λ (y : Loaded). length y.declared.fields) l)) (sym taken_last))
      (ap (λ (l : List Loaded). sum (map (λ (y : Loaded). length y.declared.methods) l)) (sym taken_last))

  -- what is kept of a class of the longer list
  rank_there : (ranks : List Rank) (r : Rank) → r ≡ rank_new s x → AreRanked ranks s.classes → (c : ClassId) → IsClass t c → numbered (ranks ++ r ∷ []) c.0 ≡ Some (rank_of t c)
  rank_there ranks r e w c there = by (nat_lt (length s.classes) c.0) refl
    where
      long : length t.classes ≡ length s.classes + 1
      long = ap length more ∙ length-append s.classes (x ∷ [])

      by : (b : Bool) → nat_lt (length s.classes) c.0 ≡ b → numbered (ranks ++ r ∷ []) c.0 ≡ Some (rank_of t c)
      by false i =
          let le : c.0 ≤ length s.classes = ltb-false (length s.classes) c.0 i in
          numbered_kept ranks (ranks ++ r ∷ []) c.0 (r ∷ [], refl) (omega (arith, le, w.long)) ∙ w.each s c refl (there.0, le) ∙ ap Some (same_rank c le)
      by true i =
          let lt : length s.classes < c.0 = ltb-true (length s.classes) c.0 i in
          let at : c.0 ≡ length ranks + 1 = omega (arith, lt, there.1, long, w.long) in
          let is : c.0 ≡ length s.classes + 1 = omega (arith, lt, there.1, long) in
          ap (numbered (ranks ++ r ∷ [])) at ∙ number_last ranks r ∙ ap Some (e ∙ last_rank)
          ∙ ap (λ (n : ℕ). Some (rank_of t (record { 0 = n }))) (sym is)

-- one class more, with what is kept of it
pub ranked_more : (s : State) (x : Loaded) (ranks : List Rank) (r : Rank) → AreLow (s.classes ++ x ∷ []) → r ≡ rank_new s x → AreRanked ranks s.classes → AreRanked (ranks ++ r ∷ []) (s.classes ++ x ∷ [])
ranked_more s x ranks r low e w = record {
  long = length-append ranks (r ∷ []) ∙ ap (λ (n : ℕ). n + 1) w.long ∙ sym (length-append s.classes (x ∷ []));
  each = λ t c same there. rank_there s t x same (subst AreLow (sym same) low) ranks r e w c there;
}

pub ranked_none : AreRanked [] []
ranked_none = record {
  long = refl;
  each = λ s c same there. let none : length s.classes ≡ 0 = ap length same in absurd (omega (arith, there.0, there.1, none));
}

-- The places of classes among those that were entered.
use Rattle.std.proofs.Common.{◌≡◌, ℕ, zero, suc, ◌<◌, List, [], ◌∷◌, ◌++◌, length, Option, None, Some, Bool, true, false, ◌==◌, if◌then◌else◌, slice_get, slice_set, option_map, refl, sym, ◌∙◌, ap, subst}
use Rattle.std.proofs.lemmas.List.{get_or-set_same, get_or-set_other}
use Rattle.std.proofs.lemmas.Bool.{eqb-true, eqb-false}
use Rattle.std.proofs.lemmas.Option.{none-some, slice_get_within}
use Rattle.jl_prim.specs.declared.numbers.ClassId.{ClassId}
use Rattle.std.specs.Option.{option_and_then}
use Rattle.jl_heap.specs.declared.value.Value.{Value}
use Rattle.jl_heap.specs.declared.statics.StaticEntry.{StaticEntry}
use Rattle.jl_heap.specs.Placing.{kept_at, place_of, KeepsPlaces}
use Rattle.jl_heap.specs.Statics.{entry_of, static_at, with_changed_class}

abbrev pub Entered : Type 0
Entered = ClassId × StaticEntry

-- what stands at the place of a class
pub record StandsAt (ps : List Entered) (c : ClassId) (i : ℕ) : Type 0 where
  pub pair : Entered
  pub stands : slice_get ps i ≡ Some pair
  pub found : entry_of ps c ≡ Some pair.1

pub place_found : (ps : List Entered) (c : ClassId) (i : ℕ) → place_of ps c.0 ≡ Some i → StandsAt ps c i
place_found [] c i e = absurd (none-some i e)
place_found (p ∷ ps) c i e = by (p.0.0 == c.0) refl (place_of ps c.0) (place_found ps c) e
  where
    by : (b : Bool) → (p.0.0 == c.0) ≡ b → (o : Option ℕ) → ((j : ℕ) → o ≡ Some j → StandsAt ps c j)
        → (if b then Some 0 else option_map suc o) ≡ Some i → StandsAt (p ∷ ps) c i
    by true h o rest f = let at : i ≡ 0 = cc in record { pair = p; stands = rw at refl; found = rw h refl }
    by false h None rest f = absurd (none-some i f)
    by false h (Some j) rest f =
        let at : i ≡ suc j = cc in let s = rest j refl in record { pair = s.pair; stands = rw at s.stands; found = rw h s.found }

pub place_within : (ps : List Entered) (c : ClassId) (i : ℕ) → place_of ps c.0 ≡ Some i → i < length ps
place_within ps c i e = let s = place_found ps c i e in slice_get_within ps i s.pair s.stands

pub entry_there : (ps : List Entered) (c : ClassId) (i : ℕ) (p : Entered) → place_of ps c.0 ≡ Some i → slice_get ps i ≡ Some p → entry_of ps c ≡ Some p.1
entry_there ps c i p e at = let s = place_found ps c i e in let same : Some s.pair ≡ Some p = sym s.stands ∙ at in s.found ∙ ap (option_map (λ (q : Entered). q.1)) same

pub place_missing : (ps : List Entered) (c : ClassId) → place_of ps c.0 ≡ None → entry_of ps c ≡ None
place_missing [] c e = refl
place_missing (p ∷ ps) c e = by (p.0.0 == c.0) (place_of ps c.0) (place_missing ps c) e
  where
    by : (b : Bool) (o : Option ℕ) → (o ≡ None → entry_of ps c ≡ None) → (if b then Some 0 else option_map suc o) ≡ None → (if b then Some p.1 else entry_of ps c) ≡ None
    by true o rest f = absurd (none-some 0 (sym f))
    by false None rest f = rest refl
    by false (Some j) rest f = absurd (none-some (suc j) (sym f))

-- the pair that stands there is changed
pub changed_there : (change : StaticEntry → StaticEntry) (ps : List Entered) (c : ClassId) (i : ℕ) (p : Entered) → place_of ps c.0 ≡ Some i → slice_get ps i ≡ Some p
    → slice_set ps i (p.0, change p.1) ≡ with_changed_class c change ps
changed_there change [] c i q e s = absurd (none-some i e)
changed_there change (p ∷ ps) c i q e s = by (p.0.0 == c.0) (place_of ps c.0) (changed_there change ps c) e
  where
    by : (b : Bool) (o : Option ℕ) → ((j : ℕ) (r : Entered) → o ≡ Some j → slice_get ps j ≡ Some r → slice_set ps j (r.0, change r.1) ≡ with_changed_class c change ps)
        → (if b then Some 0 else option_map suc o) ≡ Some i → slice_set (p ∷ ps) i (q.0, change q.1) ≡ (if b then (p.0, change p.1) ∷ ps else p ∷ with_changed_class c change ps)
    by true o rest f = let at : i ≡ 0 = cc in let g : slice_get (p ∷ ps) 0 ≡ Some q = subst (λ k. slice_get (p ∷ ps) k ≡ Some q) at s in let same : p ≡ q = cc in rw (at, ← same) refl
    by false None rest f = absurd (none-some i f)
    by false (Some j) rest f = let at : i ≡ suc j = cc in rw at (ap (λ es. p ∷ es) (rest j q refl (subst (λ k. slice_get (p ∷ ps) k ≡ Some q) at s)))

-- a changed entry keeps the places
pub place_changed : (change : StaticEntry → StaticEntry) (ps : List Entered) (c : ClassId) (n : ℕ) → place_of (with_changed_class c change ps) n ≡ place_of ps n
place_changed change [] c n = refl
place_changed change (p ∷ ps) c n = by (p.0.0 == c.0) (place_changed change ps c n)
  where
    by : (b : Bool) → place_of (with_changed_class c change ps) n ≡ place_of ps n → place_of (if b then (p.0, change p.1) ∷ ps else p ∷ with_changed_class c change ps) n ≡ place_of (p ∷ ps) n
    by true rest = refl
    by false rest = ap (λ o. if p.0.0 == n then Some 0 else option_map suc o) rest

pub places_changed : (change : StaticEntry → StaticEntry) (places : List (Option ℕ)) (ps : List Entered) (c : ClassId) → KeepsPlaces places ps → KeepsPlaces places (with_changed_class c change ps)
places_changed change places ps c k n = k n ∙ sym (place_changed change ps c n)

-- an entry that is written where a class has its place
pub places_written : (places : List (Option ℕ)) (ps : List Entered) (c : ClassId) (i : ℕ) (p : Entered) (e : StaticEntry) → place_of ps c.0 ≡ Some i → slice_get ps i ≡ Some p → KeepsPlaces places ps
    → KeepsPlaces places (slice_set ps i (p.0, e))
places_written places ps c i p e is at k = subst (KeepsPlaces places) (sym (changed_there (λ _. e) ps c i p is at)) (places_changed (λ _. e) places ps c k)

pub static_within : (ps : List Entered) (c : ClassId) (i at : ℕ) (p : Entered) (v : Value) → place_of ps c.0 ≡ Some i → slice_get ps i ≡ Some p → static_at ps c at ≡ Some v → at < length p.1.values
static_within ps c i at p v is stands e = slice_get_within p.1.values at v (sym (ap (option_and_then (λ (x : StaticEntry). slice_get x.values at)) (entry_there ps c i p is stands)) ∙ e)

-- pushing an empty place
pub kept_pushed : (places : List (Option ℕ)) (n : ℕ) → kept_at (places ++ None ∷ []) n ≡ kept_at places n
kept_pushed [] zero = refl
kept_pushed [] (suc n) = refl
kept_pushed (p ∷ places) zero = refl
kept_pushed (p ∷ places) (suc n) = kept_pushed places n

-- one class more
place_entered : (ps : List Entered) (c : ClassId) (e : StaticEntry) (n : ℕ) → entry_of ps c ≡ None → place_of (ps ++ (c, e) ∷ []) n ≡ (if c.0 == n then Some (length ps) else place_of ps n)
place_entered [] c e n none = refl
place_entered (p ∷ ps) c e n none = by (p.0.0 == c.0) refl none (place_entered ps c e n)
  where
    at : (b : Bool) → (c.0 == n) ≡ b → (p.0.0 == c.0) ≡ false → place_of (ps ++ (c, e) ∷ []) n ≡ (if b then Some (length ps) else place_of ps n)
        → (if p.0.0 == n then Some 0 else option_map suc (place_of (ps ++ (c, e) ∷ []) n)) ≡ (if b then Some (suc (length ps)) else (if p.0.0 == n then Some 0 else option_map suc (place_of ps n)))
    at true h f rest = let other : (p.0.0 == n) ≡ false = subst (λ m. (p.0.0 == m) ≡ false) (eqb-true c.0 n h) f in rw (other, rest) refl
    at false h f rest = rw rest refl

    by : (b : Bool) → (p.0.0 == c.0) ≡ b → (if b then Some p.1 else entry_of ps c) ≡ None
        → (entry_of ps c ≡ None → place_of (ps ++ (c, e) ∷ []) n ≡ (if c.0 == n then Some (length ps) else place_of ps n))
        → place_of (p ∷ (ps ++ (c, e) ∷ [])) n ≡ (if c.0 == n then Some (suc (length ps)) else place_of (p ∷ ps) n)
    by true h f rest = absurd (none-some p.1 (sym f))
    by false h f rest = at (c.0 == n) refl h (rest f)

pub places_entered : (places : List (Option ℕ)) (ps : List Entered) (c : ClassId) (e : StaticEntry) → c.0 < length places → entry_of ps c ≡ None → KeepsPlaces places ps
    → KeepsPlaces (slice_set places c.0 (Some (length ps))) (ps ++ (c, e) ∷ [])
places_entered places ps c e lt none k n = by (c.0 == n) refl ∙ sym (place_entered ps c e n none)
  where
    by : (b : Bool) → (c.0 == n) ≡ b → kept_at (slice_set places c.0 (Some (length ps))) n ≡ (if b then Some (length ps) else place_of ps n)
    by true h = rw (← eqb-true c.0 n h) (get_or-set_same places c.0 (Some (length ps)) None lt)
    by false h = get_or-set_other places c.0 n (Some (length ps)) None (λ same. eqb-false c.0 n h (sym same)) ∙ k n

pub places_as_before : (old new : List (Option ℕ)) (ps : List Entered) → ((n : ℕ) → kept_at new n ≡ kept_at old n) → KeepsPlaces old ps → KeepsPlaces new ps
places_as_before old new ps same k n = same n ∙ k n

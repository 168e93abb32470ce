-- States that go on: what is there stays there, and references that were decided stand.
use Rattle.std.proofs.Common.{◌≡◌, ◌≢◌, ◌<◌, ◌-◌, ◌⊎◌, ℕ, zero, suc, List, [], ◌∷◌, ◌++◌, length, map, drop, replicate, slice_get, slice_set, unwrap_or, Option, Some, None, Bool, true, false, true≢false, inl, inr, ⊎_elim, refl, sym, ◌∙◌, ap, subst, arith}
use Rattle.std.proofs.lemmas.Option.{none-some, same_Some}
use Rattle.jl_logic.specs.Lists.{IsFront}
use Rattle.jl_prim.specs.declared.numbers.ClassId.{ClassId}
use Rattle.jl_prim.specs.declared.error_kind.ErrorKind.{ErrorKind}
use Rattle.jl_layer.specs.Layers.{numbered}
use Rattle.jl_layer.proofs.Listed.{numbered_there, numbered_kept, front_long}
use Rattle.jl_loads.specs.declared.slot.Target.{Target}
use Rattle.jl_loads.specs.declared.slot.PoolSlot.{PoolSlot}
use Rattle.jl_loads.specs.declared.slot.PoolSlot.TheVariants.{Empty, Passed, Failed}
use Rattle.jl_loads.specs.Worlds.{State, Loaded, Keeps, IsClass, class_at, blank, slot_at, row_of, with_slot}
use Rattle.jl_loads.specs.Laws.{AreSound, SlotsStay}
use Rattle.jl_link.specs.Moving.{Moves}
use Rattle.jl_link.specs.Standing.{RefersTo}
use Rattle.jl_link.specs.Laws.{Onward, StayEmpty, AllStand}
use Rattle.jl_link.proofs.Moved.{front_same, front_onward, layers_same, layers_onward, keeps_moves}

-- ---- one slot

-- a slot of a row, as slots are asked
abbrev slot_in : ℕ → Option (List PoolSlot) → PoolSlot
slot_in i row = unwrap_or (slice_get (unwrap_or row []) i) Empty

-- the target of a slot that passed
abbrev target_in : PoolSlot → Option Target
target_in Empty = None
target_in (Passed t) = Some t
target_in (Failed kind message) = None

-- something is decided
abbrev is_filled : PoolSlot → Bool
is_filled Empty = false
is_filled (Passed t) = true
is_filled (Failed kind message) = true

pub passed_filled : (t : Target) → Passed t ≢ Empty
passed_filled t e = none-some t (sym (ap target_in e))

pub failed_filled : (kind : ErrorKind) (message : Option (List ℕ)) → Failed kind message ≢ Empty
failed_filled kind message e = true≢false (ap is_filled e)

-- ---- rows

empties : (k i : ℕ) → unwrap_or (slice_get (replicate k Empty) i) Empty ≡ Empty
empties zero i = refl
empties (suc k) zero = refl
empties (suc k) (suc i) = empties k i

blanks : (ys : List Loaded) (n i : ℕ) → slot_in i (slice_get (map blank ys) n) ≡ Empty
blanks [] n i = refl
blanks (y ∷ ys) zero i = empties (length y.declared.pool) i
blanks (y ∷ ys) (suc n) i = blanks ys n i

behind_empty : (xs : List (List PoolSlot)) (ys : List Loaded) (n i : ℕ) → slice_get xs n ≡ None → slot_in i (slice_get (xs ++ map blank ys) n) ≡ Empty
behind_empty [] ys n i e = blanks ys n i
behind_empty (x ∷ xs) ys zero i e = absurd (none-some x (sym e))
behind_empty (x ∷ xs) ys (suc n) i e = behind_empty xs ys n i e

numbered_empty : (xs : List (List PoolSlot)) (ys : List Loaded) (n i : ℕ) → numbered xs n ≡ None → slot_in i (numbered (xs ++ map blank ys) n) ≡ Empty
numbered_empty xs ys zero i e = refl
numbered_empty xs ys (suc n) i e = behind_empty xs ys n i e

-- an item that is set, and the others
set_cases : {X : Type 0} (xs : List X) (i j : ℕ) (y : X) → (slice_get (slice_set xs i y) j ≡ slice_get xs j) ⊎ ((i ≡ j) × (slice_get (slice_set xs i y) j ≡ Some y))
set_cases [] zero j y = inl refl
set_cases [] (suc i) j y = inl refl
set_cases (z ∷ zs) zero zero y = inr (refl, refl)
set_cases (z ∷ zs) zero (suc j) y = inl refl
set_cases (z ∷ zs) (suc i) zero y = inl refl
set_cases (z ∷ zs) (suc i) (suc j) y = ⊎_elim inl (λ h. inr (ap suc h.0, h.1)) (set_cases zs i j y)

-- rows of which one slot is set
abbrev rows_with : List (List PoolSlot) → ℕ → ℕ → PoolSlot → List (List PoolSlot)
rows_with rows m i x = slice_set rows m (slice_set (unwrap_or (slice_get rows m) []) i x)

row_cases : (rows : List (List PoolSlot)) (m n i j : ℕ) (x : PoolSlot)
    → (slot_in j (slice_get (rows_with rows m i x) n) ≡ slot_in j (slice_get rows n)) ⊎ ((n ≡ m) × (j ≡ i) × (slot_in j (slice_get (rows_with rows m i x) n) ≡ x))
row_cases rows m n i j x =
    ⊎_elim (λ same. inl (ap (slot_in j) same)) (λ (e, h). inside e h (set_cases (unwrap_or (slice_get rows m) []) i j x))
    (set_cases rows m n (slice_set (unwrap_or (slice_get rows m) []) i x))
  where
    row : List PoolSlot
    row = slice_set (unwrap_or (slice_get rows m) []) i x

    inside : m ≡ n → slice_get (rows_with rows m i x) n ≡ Some (slice_set (unwrap_or (slice_get rows m) []) i x)
        → (slice_get (slice_set (unwrap_or (slice_get rows m) []) i x) j ≡ slice_get (unwrap_or (slice_get rows m) []) j) ⊎ ((i ≡ j) × (slice_get (slice_set (unwrap_or (slice_get rows m) []) i x) j ≡ Some x))
        → (slot_in j (slice_get (rows_with rows m i x) n) ≡ slot_in j (slice_get rows n)) ⊎ ((n ≡ m) × (j ≡ i) × (slot_in j (slice_get (rows_with rows m i x) n) ≡ x))
    inside e h (inl k) = inl (ap (slot_in j) h ∙ ap (λ (o : Option PoolSlot). unwrap_or o Empty) k ∙ ap (λ (p : ℕ). slot_in j (slice_get rows p)) e)
    inside e h (inr k) = inr (sym e, sym k.0, ap (slot_in j) h ∙ ap (λ (o : Option PoolSlot). unwrap_or o Empty) k.1)

numbered_cases : (rows : List (List PoolSlot)) (m n i j : ℕ) (x : PoolSlot) → 0 < m
    → (slot_in j (numbered (slice_set rows (m - 1) (slice_set (unwrap_or (numbered rows m) []) i x)) n) ≡ slot_in j (numbered rows n))
    ⊎ ((n ≡ m) × (j ≡ i) × (slot_in j (numbered (slice_set rows (m - 1) (slice_set (unwrap_or (numbered rows m) []) i x)) n) ≡ x))
numbered_cases rows zero n i j x pos = absurd (omega (arith, pos))
numbered_cases rows (suc m) zero i j x pos = inl refl
numbered_cases rows (suc m) (suc n) i j x pos =
    let same : suc m - 1 ≡ m = omega arith in
    subst
    (λ (p : ℕ). (slot_in j (slice_get (slice_set rows p (slice_set (unwrap_or (slice_get rows m) []) i x)) n) ≡ slot_in j (slice_get rows n))
    ⊎ ((suc n ≡ suc m) × (j ≡ i) × (slot_in j (slice_get (slice_set rows p (slice_set (unwrap_or (slice_get rows m) []) i x)) n) ≡ x)))
    (sym same)
    (⊎_elim inl (λ (h, k, e). inr (ap suc h, k, e)) (row_cases rows m n i j x))

-- ---- slots of a state

same_class : (c d : ClassId) → c.0 ≡ d.0 → c ≡ d
same_class c d e = ap (λ (n : ℕ). let k : ClassId = record { 0 = n } in k) e

-- with one slot more, a slot is as it was, or is this one
pub slot_cases : (s : State) (d e : ClassId) (i j : ℕ) (x : PoolSlot) → 0 < d.0
    → (slot_at (with_slot d i x s) e j ≡ slot_at s e j) ⊎ ((e ≡ d) × (j ≡ i) × (slot_at (with_slot d i x s) e j ≡ x))
slot_cases s d e i j x pos = ⊎_elim inl (λ (h, k, is). inr (same_class e d h, k, is)) (numbered_cases s.slots d.0 e.0 i j x pos)

-- an item that is set is there
set_here : {X : Type 0} (xs : List X) (i : ℕ) (y : X) → i < length xs → slice_get (slice_set xs i y) i ≡ Some y
set_here [] i y lt = absurd (omega (arith, lt))
set_here (z ∷ zs) zero y lt = refl
set_here (z ∷ zs) (suc i) y lt = set_here zs i y (omega (arith, lt))

set_over : {X : Type 0} (xs : List X) (i : ℕ) (x y : X) → slice_get xs i ≡ Some x → slice_get (slice_set xs i y) i ≡ Some y
set_over [] i x y e = absurd (none-some x e)
set_over (z ∷ zs) zero x y e = refl
set_over (z ∷ zs) (suc i) x y e = set_over zs i x y e

row_there : (rows : List (List PoolSlot)) (m i : ℕ) (x : PoolSlot) → i < length (unwrap_or (slice_get rows m) []) → slot_in i (slice_get (rows_with rows m i x) m) ≡ x
row_there rows m i x lt = by (slice_get rows m) refl lt
  where
    by : (o : Option (List PoolSlot)) → slice_get rows m ≡ o → i < length (unwrap_or o []) → slot_in i (slice_get (rows_with rows m i x) m) ≡ x
    by None e none = absurd (omega (arith, none))
    by (Some row) e within =
        ap (slot_in i) (set_over rows m row (slice_set (unwrap_or (slice_get rows m) []) i x) e)
        ∙ ap (λ (o : Option PoolSlot). unwrap_or o Empty) (set_here (unwrap_or (slice_get rows m) []) i x lt)

numbered_set : (rows : List (List PoolSlot)) (m i : ℕ) (x : PoolSlot) → 0 < m → i < length (unwrap_or (numbered rows m) [])
    → slot_in i (numbered (slice_set rows (m - 1) (slice_set (unwrap_or (numbered rows m) []) i x)) m) ≡ x
numbered_set rows zero i x pos lt = absurd (omega (arith, pos))
numbered_set rows (suc m) i x pos lt =
    let same : suc m - 1 ≡ m = omega arith in
    subst (λ (p : ℕ). slot_in i (slice_get (slice_set rows p (slice_set (unwrap_or (slice_get rows m) []) i x)) m) ≡ x) (sym same) (row_there rows m i x lt)

-- the slot that is decided is there
pub slot_there : (s : State) (d : ClassId) (i : ℕ) (x : PoolSlot) → 0 < d.0 → i < length (row_of s d) → slot_at (with_slot d i x s) d i ≡ x
slot_there s d i x pos lt = numbered_set s.slots d.0 i x pos lt

slots_filled : (s : State) (d : ClassId) (i : ℕ) (x : PoolSlot) → 0 < d.0 → slot_at s d i ≡ Empty → SlotsStay s (with_slot d i x s)
slots_filled s d i x pos empty e j filled =
    ⊎_elim (λ same. same)
    (λ (h, k, is). absurd (filled (ap (λ (c : ClassId). slot_at s c j) h ∙ ap (slot_at s d) k ∙ empty)))
    (slot_cases s d e i j x pos)

slots_front : (f g : State) → IsFront f.slots g.slots → SlotsStay f g
slots_front f g front c i filled = by (numbered f.slots c.0) refl
  where
    by : (o : Option (List PoolSlot)) → numbered f.slots c.0 ≡ o → slot_at g c i ≡ slot_at f c i
    by None e = absurd (filled (ap (slot_in i) e))
    by (Some row) e = ap (slot_in i) (numbered_kept f.slots g.slots c.0 front (numbered_there f.slots c.0 row e).1)

-- ---- from one state to a later one

pub onward_same : (f : State) → Onward f f
onward_same f = record {
  layers = layers_same f.layers;
  constraints = front_same f.layers.loaders.constraints;
  classes = front_same f.classes;
  slots = λ d i filled. refl;
  kept = front_same f.kept;
}

pub onward_onward : (f g h : State) → Onward f g → Onward g h → Onward f h
onward_onward f g h a b = record {
  layers = layers_onward f.layers g.layers h.layers a.layers b.layers;
  constraints = front_onward f.layers.loaders.constraints g.layers.loaders.constraints h.layers.loaders.constraints a.constraints b.constraints;
  classes = front_onward f.classes g.classes h.classes a.classes b.classes;
  slots = λ d i filled. let e = a.slots d i filled in b.slots d i (λ z. filled (sym e ∙ z)) ∙ e;
  kept = front_onward f.kept g.kept h.kept a.kept b.kept;
}

pub moves_on : (f g : State) → Moves f g → Onward f g
moves_on f g h = record {
  layers = h.layers;
  constraints = h.constraints;
  classes = h.classes;
  slots = slots_front f g (map blank (drop (length f.classes) g.classes), h.slots);
  kept = h.kept;
}

pub moves_empty : (f g : State) → Moves f g → StayEmpty f g
moves_empty f g h d i empty = by (numbered f.slots d.0) refl
  where
    rest : List Loaded
    rest = drop (length f.classes) g.classes

    by : (o : Option (List PoolSlot)) → numbered f.slots d.0 ≡ o → slot_at g d i ≡ Empty
    by None e = ap (λ (rows : List (List PoolSlot)). slot_in i (numbered rows d.0)) h.slots ∙ numbered_empty f.slots (drop (length f.classes) g.classes) d.0 i e
    by (Some row) e = ap (slot_in i) (numbered_kept f.slots g.slots d.0 (map blank (drop (length f.classes) g.classes), h.slots) (numbered_there f.slots d.0 row e).1) ∙ empty

pub keeps_on : (f g : State) → Keeps f g → Onward f g
keeps_on f g h = moves_on f g (keeps_moves f g h)

pub keeps_empty : (f g : State) → Keeps f g → StayEmpty f g
keeps_empty f g h = moves_empty f g (keeps_moves f g h)

-- one reference more is decided
pub filled_on : (s : State) (d : ClassId) (i : ℕ) (x : PoolSlot) → 0 < d.0 → slot_at s d i ≡ Empty → Onward s (with_slot d i x s)
filled_on s d i x pos empty = record {
  layers = layers_same s.layers;
  constraints = front_same s.layers.loaders.constraints;
  classes = front_same s.classes;
  slots = slots_filled s d i x pos empty;
  kept = front_same s.kept;
}

-- ---- classes

pub class_there : (s : State) (c : ClassId) (x : Loaded) → class_at s c ≡ Some x → IsClass s c
class_there s c x e = numbered_there s.classes c.0 x e

module _ (f g : State) (more : Onward f g) where
  pub still_class : (c : ClassId) → IsClass f c → IsClass g c
  still_class c there = let le = front_long f.classes g.classes more.classes in (there.0, omega (arith, there.1, le))

  pub class_stays : (c : ClassId) → IsClass f c → class_at g c ≡ class_at f c
  class_stays c there = numbered_kept f.classes g.classes c.0 more.classes there.1

  pub class_on : (c : ClassId) (x : Loaded) → class_at f c ≡ Some x → class_at g c ≡ Some x
  class_on c x e = class_stays c (class_there f c x e) ∙ e

-- ---- all references

-- why a reference refers to a target holds on
abbrev pub RefersOn : Type 0
RefersOn = (f g : State) (d : ClassId) (i : ℕ) (t : Target) → AreSound f → Onward f g → RefersTo f d i t → RefersTo g d i t

module _ (refers : RefersOn) where
  pub all_stand : (f g : State) → AreSound f → Onward f g → StayEmpty f g → AllStand f → AllStand g
  all_stand f g sound more empty all = record { passed = λ d i t e. of_passed d i t e (slot_at f d i) refl; there = λ d i h. of_there d i h (slot_at f d i) refl }
    where
      of_passed : (d : ClassId) (i : ℕ) (t : Target) → slot_at g d i ≡ Passed t → (x : PoolSlot) → slot_at f d i ≡ x → RefersTo g d i t
      of_passed d i t e Empty o = absurd (passed_filled t (sym e ∙ empty d i o))
      of_passed d i t e (Passed u) o =
          let k : slot_at g d i ≡ slot_at f d i = more.slots d i (λ z. passed_filled u (sym o ∙ z)) in
          let same : u ≡ t = same_Some u t (ap target_in (sym o ∙ sym k ∙ e)) in
          subst (RefersTo g d i) same (refers f g d i u sound more (all.passed d i u o))
      of_passed d i t e (Failed kind message) o =
          let k : slot_at g d i ≡ slot_at f d i = more.slots d i (λ z. failed_filled kind message (sym o ∙ z)) in
          absurd (none-some t (ap target_in (sym o ∙ sym k ∙ e)))

      of_there : (d : ClassId) (i : ℕ) → slot_at g d i ≢ Empty → (x : PoolSlot) → slot_at f d i ≡ x → IsClass g d
      of_there d i h Empty o = absurd (h (empty d i o))
      of_there d i h (Passed u) o = still_class f g more d (all.there d i (λ z. passed_filled u (sym o ∙ z)))
      of_there d i h (Failed kind message) o = still_class f g more d (all.there d i (λ z. failed_filled kind message (sym o ∙ z)))

  settled_stand : (s : State) (d : ClassId) (i : ℕ) (x : PoolSlot) → AreSound s → AllStand s → IsClass s d → slot_at s d i ≡ Empty → ((t : Target) → x ≡ Passed t → RefersTo s d i t) → AllStand (with_slot d i x s)
  settled_stand s d i x sound all there empty new = record { passed = of_passed; there = of_there }
    where
      more : Onward s (with_slot d i x s)
      more = filled_on s d i x there.0 empty

      of_passed : (e : ClassId) (j : ℕ) (t : Target) → slot_at (with_slot d i x s) e j ≡ Passed t → RefersTo (with_slot d i x s) e j t
      of_passed e j t h =
          refers s (with_slot d i x s) e j t sound (filled_on s d i x there.0 empty)
          (⊎_elim (λ same. all.passed e j t (sym same ∙ h))
          (λ (c, k, is). subst (λ (n : ℕ). RefersTo s e n t) (sym k) (subst (λ (a : ClassId). RefersTo s a i t) (sym c) (new t (sym is ∙ h))))
          (slot_cases s d e i j x there.0))

      of_there : (e : ClassId) (j : ℕ) → slot_at (with_slot d i x s) e j ≢ Empty → IsClass (with_slot d i x s) e
      of_there e j h =
          ⊎_elim (λ same. all.there e j (λ z. h (same ∙ z)))
          (λ (c, k, is). subst (IsClass s) (sym c) there)
          (slot_cases s d e i j x there.0)

  pub passed_stand : (s : State) (d : ClassId) (i : ℕ) (t : Target) → AreSound s → AllStand s → IsClass s d → slot_at s d i ≡ Empty → RefersTo s d i t → AllStand (with_slot d i (Passed t) s)
  passed_stand s d i t sound all there empty new =
      settled_stand s d i (Passed t) sound all there empty (λ u e. subst (RefersTo s d i) (same_Some t u (ap target_in e)) new)

  pub failed_stand : (s : State) (d : ClassId) (i : ℕ) (kind : ErrorKind) (message : Option (List ℕ)) → AreSound s → AllStand s → IsClass s d → slot_at s d i ≡ Empty → AllStand (with_slot d i (Failed kind message) s)
  failed_stand s d i kind message sound all there empty =
      settled_stand s d i (Failed kind message) sound all there empty (λ u e. absurd (none-some u (ap target_in e)))

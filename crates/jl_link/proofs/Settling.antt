-- What keeping leaves of a reference that is decided.
use Rattle.std.proofs.Common.{◌≡◌, ◌∙◌, sym, ap, subst, refl, Ok, Err, Result, List, [], ◌∷◌, Option, None, Some, map, option_map, ⊎_elim, arith}
use Rattle.std.specs.Prelude.{ℕ, zero, suc, ◌<◌, length, unwrap_or, IfOk}
use Rattle.jl_logic.specs.Lists.{IsFront}
use Rattle.jl_prim.specs.declared.numbers.ClassId.{ClassId}
use Rattle.jl_prim.specs.declared.error_kind.ErrorKind.{ErrorKind}
use Rattle.jl_loads.specs.declared.slot.Target.{Target}
use Rattle.jl_loads.specs.declared.slot.PoolSlot.{PoolSlot}
use Rattle.jl_loads.specs.declared.slot.PoolSlot.TheVariants.{Empty, Passed, Failed}
use Rattle.jl_loads.specs.declared.end.LinkEnd.{LinkEnd}
use Rattle.jl_loads.specs.declared.end.LinkEnd.TheVariants as ends
use Rattle.jl_loads.specs.Ends.{Asks, Leaves}
use Rattle.jl_loads.specs.Laws.{AreSound, ReadOnce}
use Rattle.jl_loads.specs.Outcomes.{Outcome}
use Rattle.jl_loads.specs.Worlds.{State, Loaded, IsClass, class_at, row_of, slot_at, with_slot}
use Rattle.jl_link.specs.Laws.{AllStand, DecidedStays, Onward}
use Rattle.jl_link.specs.References.{by_slot, once_for_all, settled}
use Rattle.jl_link.specs.Slots.{Answers, Settles}
use Rattle.jl_link.specs.Standing.{RefersTo, NamesTarget}
use Rattle.jl_pool.specs.Pool.{member_of}
use Rattle.jl_code.specs.References.{class_text}
use Rattle.jl_link.proofs.Moved.{front_same}
use Rattle.std.proofs.lemmas.Option.{none-some, same_Some}
use Rattle.jl_layer.specs.Layers.{numbered}
use Rattle.jl_link.proofs.Onwards.{class_on, filled_on, onward_same, slot_cases, slot_there}
use Rattle.jl_link.proofs.Reaching.{asks_kept, class_there}

-- ---- a slot that is filled

pub answers_open : (p : PoolSlot) (o : Option (Result Target LinkEnd)) → o ≡ None → Answers p o → p ≡ Empty
answers_open Empty o e h = refl
answers_open (Passed t) None e h = absurd h
answers_open (Passed t) (Some r) e h = absurd (cc e)
answers_open (Failed k m) None e h = absurd h
answers_open (Failed k m) (Some r) e h = absurd (cc e)

pub answers_leaves : (p : PoolSlot) (s : State) (d : ClassId) (i : ℕ) (o : Outcome Target) (r : Result Target LinkEnd) → Answers p (Some r) → Leaves (by_slot p s d i o) r s
answers_leaves Empty s d i o r h = absurd h
answers_leaves (Passed t) s d i o (Ok u) h = ap (λ (x : Target). (s, Ok x)) (sym h)
answers_leaves (Passed t) s d i o (Err e) h = rw h tt
answers_leaves (Failed k m) s d i o (Ok u) h = absurd h
answers_leaves (Failed k m) s d i o (Err (ends.Throws kind message)) h = ap (λ t. (s, Err t)) h
answers_leaves (Failed k m) s d i o (Err ends.ReadFault) h = tt
answers_leaves (Failed k m) s d i o (Err ends.NoMemory) h = tt

pub answers_passed : (p : PoolSlot) (r : Result Target LinkEnd) → Answers p (Some r) → IfOk r (λ t. p ≡ Passed t)
answers_passed Empty r h = absurd h
answers_passed (Passed t) (Ok u) h = ap Passed (sym h)
answers_passed (Passed t) (Err e) h = tt
answers_passed (Failed k m) (Ok u) h = absurd h
answers_passed (Failed k m) (Err e) h = tt

pub answers_read : (p : PoolSlot) (r : Result Target LinkEnd) → Answers p (Some r) → r ≡ Err ends.ReadFault → ⊥
answers_read Empty r h e = h
answers_read (Passed t) (Ok u) h e = cc e
answers_read (Passed t) (Err x) h e = cc (h, e)
answers_read (Failed k m) (Ok u) h e = h
answers_read (Failed k m) (Err (ends.Throws kind message)) h e = cc e
answers_read (Failed k m) (Err ends.ReadFault) h e = h
answers_read (Failed k m) (Err ends.NoMemory) h e = cc e

-- ---- a slot that was filled now: nothing is, or the one slot

-- the state is as it was, or has this slot
pub data IsFilled (d : ClassId) (i : ℕ) (s t : State) : Type 0 where
  Same : t ≡ s → IsFilled d i s t
  Filled : (x : PoolSlot) → t ≡ with_slot d i x s → IsFilled d i s t

pub filled : (d : ClassId) (i : ℕ) (s t : State) (found r : Result Target LinkEnd) → Settles d i s found r t → IsFilled d i s t
filled d i s t (Ok x) (Ok y) h = Filled (Passed x) h.1
filled d i s t (Ok x) (Err e) h = Same h.1
filled d i s t (Err x) (Ok y) h = absurd h
filled d i s t (Err (ends.Throws k m)) (Err (ends.Throws kind message)) h = Filled (Failed k m) h.2
filled d i s t (Err (ends.Throws k m)) (Err ends.ReadFault) h = absurd h
filled d i s t (Err (ends.Throws k m)) (Err ends.NoMemory) h = Same h
filled d i s t (Err ends.ReadFault) (Err e) h = Same h.1
filled d i s t (Err ends.NoMemory) (Err e) h = Same h.1

pub filled_onward : (d : ClassId) (i : ℕ) (s t : State) → 0 < d.0 → slot_at s d i ≡ Empty → IsFilled d i s t → Onward s t
filled_onward d i s t pos free (Same e) = subst (Onward s) (sym e) (onward_same s)
filled_onward d i s t pos free (Filled x e) = subst (Onward s) (sym e) (filled_on s d i x pos free)

-- the other slots are as they were
pub filled_others : (d : ClassId) (i j : ℕ) (s t : State) → 0 < d.0 → (j ≡ i → ⊥) → IsFilled d i s t → slot_at s d j ≡ Empty → slot_at t d j ≡ Empty
filled_others d i j s t pos other (Same e) free = ap (λ (u : State). slot_at u d j) e ∙ free
filled_others d i j s t pos other (Filled x e) free =
    ap (λ (u : State). slot_at u d j) e ∙ ⊎_elim (λ same. same ∙ free) (λ (h, k, is). absurd (other k)) (slot_cases s d d i j x pos)

filled_kept : (d : ClassId) (i : ℕ) (s t : State) → IsFilled d i s t → IsFront s.kept t.kept
filled_kept d i s t (Same e) = subst (λ (u : State). IsFront s.kept u.kept) (sym e) (front_same s.kept)
filled_kept d i s t (Filled x e) = subst (λ (u : State). IsFront s.kept u.kept) (sym e) (front_same s.kept)

pub filled_asks : ReadOnce → (d : ClassId) (i : ℕ) (f s t : State) (a b : Option (List (List ℕ))) → IsFront f.kept s.kept → IsFilled d i s t → Asks f s a b → Asks f t a b
filled_asks law d i f s t a b kept fill asks = asks_kept law f s t a b kept (filled_kept d i s t fill) asks

pub settles_stand : DecidedStays → (d : ClassId) (i : ℕ) (s t : State) (found r : Result Target LinkEnd) → AreSound s → IsClass s d → slot_at s d i ≡ Empty → IfOk found (RefersTo s d i) → Settles d i s found r t → AllStand s → AllStand t
settles_stand law d i s t (Ok x) (Ok y) sound there free refers h all = subst AllStand (sym h.1) (law.decided s d i x sound all there free refers)
settles_stand law d i s t (Ok x) (Err e) sound there free refers h all = subst AllStand (sym h.1) all
settles_stand law d i s t (Err x) (Ok y) sound there free refers h all = absurd h
settles_stand law d i s t (Err (ends.Throws k m)) (Err (ends.Throws kind message)) sound there free refers h all = subst AllStand (sym h.2) (law.refused s d i k m sound all there free)
settles_stand law d i s t (Err (ends.Throws k m)) (Err ends.ReadFault) sound there free refers h all = absurd h
settles_stand law d i s t (Err (ends.Throws k m)) (Err ends.NoMemory) sound there free refers h all = subst AllStand (sym h) all
settles_stand law d i s t (Err ends.ReadFault) (Err e) sound there free refers h all = subst AllStand (sym h.1) all
settles_stand law d i s t (Err ends.NoMemory) (Err e) sound there free refers h all = subst AllStand (sym h.1) all

pub settles_passed : (d : ClassId) (i : ℕ) (s t : State) (found r : Result Target LinkEnd) → 0 < d.0 → i < length (row_of s d) → Settles d i s found r t → IfOk r (λ x. slot_at t d i ≡ Passed x)
settles_passed d i s t (Ok x) (Ok y) pos lt h = ap (λ (u : State). slot_at u d i) h.1 ∙ slot_there s d i (Passed x) pos lt ∙ ap Passed (sym h.0)
settles_passed d i s t (Err x) (Ok y) pos lt h = absurd h
settles_passed d i s t found (Err e) pos lt h = tt

pub settles_leaves : (d : ClassId) (i : ℕ) (s t : State) (o : Outcome Target) (found r : Result Target LinkEnd) → Leaves o found s → Settles d i s found r t → Leaves (settled d i o) r t
settles_leaves d i s t o (Ok x) (Ok y) l h = ap (settled d i) l ∙ ap (λ (u : State). (u, Ok x)) (sym h.1) ∙ ap (λ (z : Target). (t, Ok z)) (sym h.0)
settles_leaves d i s t o (Ok x) (Err e) l h = rw h.0 tt
settles_leaves d i s t o (Err x) (Ok y) l h = absurd h
settles_leaves d i s t o (Err (ends.Throws k m)) (Err (ends.Throws kind message)) l h =
    ap (settled d i) l ∙ ap (λ (u : State). (u, Err (record { kind = k; message = m }))) (sym h.2) ∙ ap (λ (z : ErrorKind). (t, Err (record { kind = z; message = m }))) (sym h.0) ∙ ap (λ (z : Option (List ℕ)). (t, Err (record { kind = kind; message = z }))) (sym h.1)
settles_leaves d i s t o (Err (ends.Throws k m)) (Err ends.ReadFault) l h = absurd h
settles_leaves d i s t o (Err (ends.Throws k m)) (Err ends.NoMemory) l h = tt
settles_leaves d i s t o (Err ends.ReadFault) (Err e) l h = rw h.0 tt
settles_leaves d i s t o (Err ends.NoMemory) (Err e) l h = rw h.0 tt

pub settles_read : (d : ClassId) (i : ℕ) (s t : State) (found r : Result Target LinkEnd) → Settles d i s found r t → r ≡ Err ends.ReadFault → found ≡ Err ends.ReadFault
settles_read d i s t (Ok x) (Ok y) h e = absurd (cc e)
settles_read d i s t (Ok x) (Err y) h e = absurd (cc (h.0, e))
settles_read d i s t (Err x) (Ok y) h e = absurd h
settles_read d i s t (Err (ends.Throws k m)) (Err (ends.Throws kind message)) h e = absurd (cc e)
settles_read d i s t (Err (ends.Throws k m)) (Err ends.ReadFault) h e = absurd h
settles_read d i s t (Err (ends.Throws k m)) (Err ends.NoMemory) h e = absurd (cc e)
settles_read d i s t (Err ends.ReadFault) (Err y) h e = refl
settles_read d i s t (Err ends.NoMemory) (Err y) h e = absurd (cc (h.0, e))

-- ---- a class entry

pub class_refers : (s : State) (d : ClassId) (i : ℕ) (from : Loaded) (found : Result Target LinkEnd) → class_at s d ≡ Some from → member_of from.declared.pool i ≡ None
    → IfOk found (NamesTarget s from (unwrap_or (class_text from.declared.pool i) [])) → IfOk found (RefersTo s d i)
class_refers s d i from (Ok t) here plain h = record { from = from; class = here; refers = rw plain h }
class_refers s d i from (Err e) here plain h = tt

-- a slot that is free takes what is found
pub opens_leaves : (s t : State) (d : ClassId) (i : ℕ) (o : Outcome Target) (r : Result Target LinkEnd) → slot_at s d i ≡ Empty → Leaves (settled d i o) r t → Leaves (once_for_all s d i o) r t
opens_leaves s t d i o r free h = rw free h

-- and one that is filled answers
pub closed_leaves : (s : State) (d : ClassId) (i : ℕ) (o : Outcome Target) (p : PoolSlot) (r : Result Target LinkEnd) → p ≡ slot_at s d i → Answers p (Some r) → Leaves (once_for_all s d i o) r s
closed_leaves s d i o p r e h = answers_leaves (slot_at s d i) s d i o r (subst (λ (q : PoolSlot). Answers q (Some r)) e h)

-- ---- rows

numbered_mapped : {X Y : Type 0} (f : X → Y) (xs : List X) (n : ℕ) → numbered (map f xs) n ≡ option_map f (numbered xs n)
numbered_mapped f xs zero = refl
numbered_mapped f [] (suc n) = refl
numbered_mapped f (x ∷ xs) (suc zero) = refl
numbered_mapped f (x ∷ xs) (suc (suc n)) = numbered_mapped f xs (suc n)

-- a row is as long as the pool
pub row_long : (s : State) (d : ClassId) (x : Loaded) → AreSound s → class_at s d ≡ Some x → length (row_of s d) ≡ length x.declared.pool
row_long s d x sound e = by (numbered s.slots d.0) refl where
  same : option_map length (numbered s.slots d.0) ≡ Some (length x.declared.pool)
  same = sym (numbered_mapped length s.slots d.0) ∙ ap (λ (ns : List ℕ). numbered ns d.0) sound.rows ∙ numbered_mapped (λ (c : Loaded). length c.declared.pool) s.classes d.0 ∙ ap (option_map (λ (c : Loaded). length c.declared.pool)) e

  by : (o : Option (List PoolSlot)) → numbered s.slots d.0 ≡ o → length (row_of s d) ≡ length x.declared.pool
  by None h = absurd (none-some (length x.declared.pool) (sym (ap (option_map length) h) ∙ same))
  by (Some row) h = ap (λ (o : Option (List PoolSlot)). length (unwrap_or o [])) h ∙ same_Some (length row) (length x.declared.pool) (sym (ap (option_map length) h) ∙ same)

-- and stays so long
pub row_stays : (s t : State) (d : ClassId) (i : ℕ) → AreSound s → AreSound t → Onward s t → IsClass s d → i < length (row_of s d) → i < length (row_of t d)
row_stays s t d i a b on there lt =
    let x = class_there s d there in
    let one = row_long s d x.0 a x.1 in
    let two = row_long t d x.0 b (class_on s t on d x.0 x.1) in
    omega (arith, one, two, lt)

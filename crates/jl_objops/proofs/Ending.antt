-- How a row ends: by a reference that is refused, or by its last part.
use Rattle.std.proofs.Common.{◌≡◌, ◌⊎◌, ◌<◌, ◌≤◌, inl, inr, ℕ, Bool, false, cond, nat_lt, arith, Result, Ok, Err, refl, sym, ◌∙◌, ap, subst}
use Rattle.jl_heap.specs.declared.ends.RowEnd.{RowEnd}
use Rattle.jl_heap.specs.declared.ends.RowEnd.TheVariants as ends
use Rattle.jl_heap.specs.declared.store.Store.{Store}
use Rattle.jl_loads.specs.declared.slot.Target.{Target}
use Rattle.jl_loads.specs.Worlds.{State}
use Rattle.std.proofs.lemmas.Bool.{ltb-true, false_from_ne_true}
use Rattle.jl_heap.specs.Frames.{room_in}
use Rattle.jl_ops.specs.declared.stop.Stop.{Stop}
use Rattle.jl_ops.specs.Operands.{in_room, no_room}
use Rattle.jl_objops.specs.declared.halt.Halt.{Halt}
use Rattle.jl_objops.specs.declared.halt.Halt.TheVariants as halts
use Rattle.jl_objops.specs.Outcomes.{Outcome, Does, EndsBy, EndsSo, IsRow, Refers, end_of, told, tested, with_target}

-- ---- ends

-- what is told is a row
as_row : (o : Outcome) (s t : Store) (v : State) (end : RowEnd) → told s o ≡ (v, t, end) → IsRow o s end v t
as_row o s t v ends.Next e = e
as_row o s t v (ends.Throws kind message) e = e
as_row o s t v (ends.Raises n) e = e
as_row o s t v (ends.Needs c) e = e
as_row o s t v (ends.Native m) e = e
as_row o s t v (ends.Exits n) e = e
as_row o s t v (ends.Stuck kind found) e = e
as_row o s t v ends.ReadFault e = tt
as_row o s t v ends.SinkFault e = e
as_row o s t v ends.NoMemory e = tt

-- want of memory says nothing
no_memory : (o : Outcome) (s t : Store) (v : State) (end : RowEnd) → end ≡ ends.NoMemory → IsRow o s end v t
no_memory o s t v end e = subst (λ (k : RowEnd). IsRow o s k v t) (sym e) tt

-- the end is as was said, or memory is wanting
ends_either : (said end : RowEnd) → EndsSo said end → (end ≡ ends.NoMemory) ⊎ (said ≡ end)
ends_either said ends.Next e = inr e
ends_either said (ends.Throws kind message) e = inr e
ends_either said (ends.Raises n) e = inr e
ends_either said (ends.Needs c) e = inr e
ends_either said (ends.Native m) e = inr e
ends_either said (ends.Exits n) e = inr e
ends_either said (ends.Stuck kind found) e = inr e
ends_either said ends.ReadFault e = inr e
ends_either said ends.SinkFault e = inr e
ends_either said ends.NoMemory e = inl refl

-- a row that does not go on, and has left the store as it was
pub halted : (s t : Store) (v : State) (h : Halt) (end : RowEnd) → t ≡ s → EndsSo (end_of h) end → IsRow (v, Err h) s end v t
halted s t v h end same e = elim (ends_either (end_of h) end e) [
  | inl none ↦ no_memory (v, Err h) s t v end none
  | inr so ↦ as_row (v, Err h) s t v end (ap (λ (u : Store). (v, u, end_of h)) (sym same) ∙ ap (λ (k : RowEnd). (v, t, k)) so)
]

-- ---- a row whose operands are not as it wants them

pub untested : {X : Type 0} (s : Store) (w : State) (said : Result X Stop) (next : X → Outcome) (stop : Stop) (end : RowEnd) → said ≡ Err stop → EndsSo (end_of (halts.Stop stop)) end → IsRow (tested w said next) s end w s
untested s w said next stop end e h = subst (λ (r : Result _ Stop). IsRow (tested w r next) s end w s) (sym e) (halted s s w (halts.Stop stop) end refl h)

-- a row whose operands are as it wants them
pub tested_so : {X : Type 0} (s t : Store) (w v : State) (said : Result X Stop) (next : X → Outcome) (x : X) (end : RowEnd) → said ≡ Ok x → IsRow (next x) s end v t → IsRow (tested w said next) s end v t
tested_so s t w v said next x end e h = subst (λ (r : Result _ Stop). IsRow (tested w r next) s end v t) (sym e) h

-- a row whose operands are not wrong, and that does not ask for them again
pub tested_ok : {X : Type 0} (s t : Store) (w v : State) (found said : Result X Stop) (o : Outcome) (end : RowEnd) → found ≡ said → ((stop : Stop) → found ≡ Err stop → ⊥) → IsRow o s end v t → IsRow (tested w said (λ x. o)) s end v t
tested_ok s t w v (Ok x) said o end e fine h = subst (λ (r : Result _ Stop). IsRow (tested w r (λ x. o)) s end v t) e h
tested_ok s t w v (Err stop) said o end e fine h = absurd (fine stop refl)

-- a row with room for its result
pub roomy : (s t : Store) (w v : State) (n : ℕ) (next : Unit → Outcome) (end : RowEnd) → n ≤ room_in s.frames → IsRow (next tt) s end v t → IsRow (tested w (in_room {X = Unit} n s.frames tt) next) s end v t
roomy s t w v n next end le h =
    let room : nat_lt (room_in s.frames) n ≡ false = false_from_ne_true (nat_lt (room_in s.frames) n) (λ e. let lt : room_in s.frames < n = ltb-true (room_in s.frames) n e in omega (arith, lt, le)) in
    tested_so s t w v (in_room {X = Unit} n s.frames tt) next tt end (ap (λ (b : Bool). let r : Result Unit Stop = cond b (Err no_room) (Ok tt) in r) room) h

-- ---- a row whose reference is refused

module _ (next : State → Target → Result Store Halt) (s : Store) (v : State) where
  refused_so : (said : State × Result Target Halt) (end : RowEnd) → ((h : Halt) × (said ≡ (v, Err h)) × (end_of h ≡ end)) → told s (with_target said next) ≡ (v, s, end)
  refused_so said end h = ap (λ (o : State × Result Target Halt). told s (with_target o next)) h.1 ∙ ap (λ (e : RowEnd). (v, s, e)) h.2

  pub refused : (said : State × Result Target Halt) (end : RowEnd) → Refers said (Err end) v → IsRow (with_target said next) s end v s
  refused said ends.Next h = refused_so said ends.Next h
  refused said (ends.Throws kind message) h = refused_so said (ends.Throws kind message) h
  refused said (ends.Raises o) h = refused_so said (ends.Raises o) h
  refused said (ends.Needs c) h = refused_so said (ends.Needs c) h
  refused said (ends.Native m) h = refused_so said (ends.Native m) h
  refused said (ends.Exits n) h = refused_so said (ends.Exits n) h
  refused said (ends.Stuck kind found) h = refused_so said (ends.Stuck kind found) h
  refused said ends.ReadFault h = tt
  refused said ends.SinkFault h = refused_so said ends.SinkFault h
  refused said ends.NoMemory h = tt

  -- ---- a row whose last part has ended

  pub resolved : (said : State × Result Target Halt) (target : Target) (end : RowEnd) (t : Store) → said ≡ (v, Ok target) → IsRow (v, next v target) s end v t → IsRow (with_target said next) s end v t
  resolved said target end t e h = subst (λ (o : State × Result Target Halt). IsRow (with_target o next) s end v t) (sym e) h

module _ (said : Result Store Halt) (s t : Store) (v : State) (end : RowEnd) where
  finished_halt : (h : Halt) → (said ≡ Err h) × (t ≡ s) → EndsSo (end_of h) end → IsRow (v, said) s end v t
  finished_halt h d e = subst (λ (r : Result Store Halt). IsRow (v, r) s end v t) (sym d.0) (halted s t v h end d.1 e)

  finished_none : EndsSo ends.NoMemory end → IsRow (v, said) s end v t
  finished_none e = elim (ends_either ends.NoMemory end e) [
    | inl none ↦ no_memory (v, said) s t v end none
    | inr so ↦ no_memory (v, said) s t v end (sym so)
  ]

  pub finished : {U : Type 0} (r : Result U Halt) → Does said s r t → EndsBy r end → IsRow (v, said) s end v t
  finished (Ok u) d e = subst (λ (k : RowEnd). IsRow (v, said) s k v t) (sym e) (ap (λ (r : Result Store Halt). told s (v, r)) d)
  finished (Err (halts.Stop stop)) d e = finished_halt (halts.Stop stop) d e.0
  finished (Err (halts.Throws kind message)) d e = finished_halt (halts.Throws kind message) d e.0
  finished (Err (halts.Needs c)) d e = finished_halt (halts.Needs c) d e.0
  finished (Err (halts.Native m)) d e = finished_halt (halts.Native m) d e.0
  finished (Err halts.NoMemory) d e = finished_none e.0

-- ---- parts that answer, unless memory is wanting

abbrev is_fine : {X : Type 0} → Result X Halt → Type 0
is_fine (Ok x) = Unit
is_fine (Err h) = ⊥

not_err : {X : Type 0} (x : X) (h : Halt) → (let r : Result X Halt = Ok x in r) ≡ Err h → ⊥
not_err x h e = subst is_fine e tt

pub does_on : {S U : Type 0} (a b m o : S) (r : Result U Halt) (n : S) → a ≡ b → Does (Ok a) m r n → Does (Ok b) o r n
does_on a b m o (Ok u) n e d = ap (λ x. Ok x) (sym e) ∙ d
does_on a b m o (Err (halts.Stop stop)) n e d = absurd (not_err a (halts.Stop stop) d.0)
does_on a b m o (Err (halts.Throws kind message)) n e d = absurd (not_err a (halts.Throws kind message) d.0)
does_on a b m o (Err (halts.Needs c)) n e d = absurd (not_err a (halts.Needs c) d.0)
does_on a b m o (Err (halts.Native k)) n e d = absurd (not_err a (halts.Native k) d.0)
does_on a b m o (Err halts.NoMemory) n e d = tt

pub same_ok : {X : Type 0} (x y : X) → (let r : Result X Halt = Ok x in r) ≡ Ok y → x ≡ y
same_ok x y e = ap (value_or x) e
  where
    value_or : {X : Type 0} → X → Result X Halt → X
    value_or x (Ok y) = y
    value_or x (Err h) = x

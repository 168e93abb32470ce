-- Rows of frames keep it so that references name objects.
use Rattle.std.proofs.Common.{◌≡◌, ℕ, zero, suc, ◌+◌, List, [], ◌∷◌, drop, Bool, true, false, Option, Some, None, Result, Ok, Err, nat_lt, slice_get, slice_set, refl, subst}
use Rattle.std.specs.Prelude.{⊤, if◌then◌else◌}
use Rattle.std.specs.List.{AllByRecursion}
use Rattle.std.specs.Option.{option_and_then}
use Rattle.jl_reading.specs.Reading.{◌>>=◌}
use Rattle.jl_heap.specs.declared.value.Kind.{Kind}
use Rattle.jl_heap.specs.declared.value.Kind.TheVariants as kinds
use Rattle.jl_heap.specs.declared.value.Value.{Value}
use Rattle.jl_heap.specs.declared.value.Value.TheVariants as values
use Rattle.jl_heap.specs.Frames.{FrameState, FramesState, first_changed, on_top, with_pc, with_value, without_value, with_local, room_in}
use Rattle.jl_heap.specs.Heap.{HeapState}
use Rattle.jl_ops.specs.declared.stop.Stop.{Stop}
use Rattle.jl_ops.specs.Locals.{set_value}
use Rattle.jl_ops.specs.Operands.{slot_under, slot_in_local, stacked_value, stored_value, value_under, value_in_local, wanted, no_room, in_room, put, popped, put_value, without_top, at_place}
use Rattle.jl_ops.specs.Naming.{Names, FrameNames}

-- ---- lists

-- what holds of all holds of one, where there is one
abbrev pub OfSome : {X : Type 0} → (X → Type 0) → Option X → Type 0
OfSome P None = ⊤
OfSome P (Some x) = P x

pub all_get : {X : Type 0} (P : X → Type 0) (xs : List X) (i : ℕ) → AllByRecursion P xs → OfSome P (slice_get xs i)
all_get P [] i a = tt
all_get P (x ∷ xs) zero a = a.0
all_get P (x ∷ xs) (suc i) a = all_get P xs i a.1

pub all_set : {X : Type 0} (P : X → Type 0) (xs : List X) (i : ℕ) (v : X) → P v → AllByRecursion P xs → AllByRecursion P (slice_set xs i v)
all_set P [] i v p a = tt
all_set P (x ∷ xs) zero v p a = (p, a.1)
all_set P (x ∷ xs) (suc i) v p a = (a.0, all_set P xs i v p a.1)

pub all_behind : {X : Type 0} (P : X → Type 0) (xs : List X) → AllByRecursion P xs → AllByRecursion P (drop 1 xs)
all_behind P [] a = tt
all_behind P (x ∷ xs) a = a.1

-- ---- frames

-- the references of frames name objects
abbrev pub FramesName : HeapState → List FrameState → Type 0
FramesName h fs = AllByRecursion (FrameNames h) fs

pub first_names : (h : HeapState) (change : FrameState → FrameState) (fs : List FrameState) → ((f : FrameState) → FrameNames h f → FrameNames h (change f)) → FramesName h fs → FramesName h (first_changed change fs)
first_names h change [] k n = tt
first_names h change (f ∷ fs) k n = (k f n.0, n.1)

pub put_names : (h : HeapState) (v : Value) (s : FramesState) → Names h v → FramesName h s.frames → FramesName h (put v s).frames
put_names h v s p n = first_names h (with_value v) s.frames (λ f m. record { locals = m.locals; stack = (p, m.stack) }) n

pub popped_names : (h : HeapState) (s : FramesState) → FramesName h s.frames → FramesName h (popped s).frames
popped_names h s n = first_names h without_value s.frames (λ f m. record { locals = m.locals; stack = all_behind (Names h) f.stack m.stack }) n

pub place_names : (h : HeapState) (place : ℕ) (s : FramesState) → FramesName h s.frames → FramesName h (at_place place s).frames
place_names h place s n = first_names h (with_pc place) s.frames (λ f m. record { locals = m.locals; stack = m.stack }) n

pub local_names : (h : HeapState) (at : ℕ) (v : Value) (s : FramesState) → Names h v → FramesName h s.frames → FramesName h (on_top (with_local at v) s).frames
local_names h at v s p n = first_names h (with_local at v) s.frames (λ f m. record { locals = all_set (Names h) f.locals at v p m.locals; stack = m.stack }) n

pub put_value_names : (h : HeapState) (v : Value) (s : FramesState) → Names h v → FramesName h s.frames → FramesName h (put_value v s).frames
put_value_names h (values.Int m) s p n = put_names h (values.Int m) s p n
put_value_names h (values.Ref o) s p n = put_names h (values.Ref o) s p n
put_value_names h values.Top s p n = put_names h values.Top s p n
put_value_names h (values.Long m) s p n = put_names h values.Top (put (values.Long m) s) tt (put_names h (values.Long m) s tt n)

pub without_top_names : (h : HeapState) (v : Value) (s : FramesState) → FramesName h s.frames → FramesName h (without_top v s).frames
without_top_names h (values.Int m) s n = popped_names h s n
without_top_names h (values.Ref o) s n = popped_names h s n
without_top_names h values.Top s n = popped_names h s n
without_top_names h (values.Long m) s n = popped_names h (popped s) (popped_names h s n)

pub set_value_names : (h : HeapState) (at : ℕ) (v : Value) (s : FramesState) → Names h v → FramesName h s.frames → FramesName h (set_value at v s).frames
set_value_names h at (values.Int m) s p n = local_names h at (values.Int m) s p n
set_value_names h at (values.Ref o) s p n = local_names h at (values.Ref o) s p n
set_value_names h at values.Top s p n = local_names h at values.Top s p n
set_value_names h at (values.Long m) s p n = local_names h (at + 1) values.Top (on_top (with_local at (values.Long m)) s) tt (local_names h at (values.Long m) s tt n)

-- ---- what is there

slots_names : (h : HeapState) (fs : List FrameState) (d : ℕ) → FramesName h fs → OfSome (Names h) (option_and_then (λ (f : FrameState). slice_get f.stack d) (slice_get fs 0))
slots_names h [] d n = tt
slots_names h (f ∷ fs) d n = all_get (Names h) f.stack d n.0.stack

pub slot_names : (h : HeapState) (s : FramesState) (d : ℕ) → FramesName h s.frames → OfSome (Names h) (slot_under s d)
slot_names h s d n = slots_names h s.frames d n

locals_names : (h : HeapState) (fs : List FrameState) (at : ℕ) → FramesName h fs → OfSome (Names h) (option_and_then (λ (f : FrameState). slice_get f.locals at) (slice_get fs 0))
locals_names h [] at n = tt
locals_names h (f ∷ fs) at n = all_get (Names h) f.locals at n.0.locals

guarded_names : (h : HeapState) (b : Bool) (o : Option Value) → OfSome (Names h) o → OfSome (Names h) (if b then o else None)
guarded_names h true o n = n
guarded_names h false o n = tt

pub slot_in_local_names : (h : HeapState) (s : FramesState) (at : ℕ) → FramesName h s.frames → OfSome (Names h) (slot_in_local s at)
slot_in_local_names h s at n = guarded_names h _ _ (locals_names h s.frames at n)

stacked_names : (h : HeapState) (u l : Option Value) → OfSome (Names h) u → Names h (stacked_value u l)
stacked_names h None l n = tt
stacked_names h (Some (values.Int m)) l n = tt
stacked_names h (Some (values.Long m)) l n = tt
stacked_names h (Some (values.Ref o)) l n = n
stacked_names h (Some values.Top) None n = tt
stacked_names h (Some values.Top) (Some (values.Int m)) n = tt
stacked_names h (Some values.Top) (Some (values.Long m)) n = tt
stacked_names h (Some values.Top) (Some (values.Ref o)) n = tt
stacked_names h (Some values.Top) (Some values.Top) n = tt

pub under_names : (h : HeapState) (s : FramesState) (d : ℕ) → FramesName h s.frames → Names h (value_under s d)
under_names h s d n = stacked_names h (slot_under s d) (slot_under s (d + 1)) (slot_names h s d n)

stored_names : (h : HeapState) (u l : Option Value) → OfSome (Names h) u → Names h (stored_value u l)
stored_names h None l n = tt
stored_names h (Some (values.Int m)) l n = tt
stored_names h (Some (values.Ref o)) l n = n
stored_names h (Some values.Top) l n = tt
stored_names h (Some (values.Long m)) None n = tt
stored_names h (Some (values.Long m)) (Some (values.Int k)) n = tt
stored_names h (Some (values.Long m)) (Some (values.Long k)) n = tt
stored_names h (Some (values.Long m)) (Some (values.Ref o)) n = tt
stored_names h (Some (values.Long m)) (Some values.Top) n = tt

pub in_local_names : (h : HeapState) (s : FramesState) (at : ℕ) → FramesName h s.frames → Names h (value_in_local s at)
in_local_names h s at n = stored_names h (slot_in_local s at) (slot_in_local s (at + 1)) (slot_in_local_names h s at n)

-- ---- answers

-- what is answered, where something is
abbrev pub Gives : {B : Type 0} → (B → Type 0) → Result B Stop → Type 0
Gives P (Ok x) = P x
Gives P (Err stop) = ⊤

pub then_gives : {A B : Type 0} (P : A → Type 0) (Q : B → Type 0) (m : Result A Stop) (f : A → Result B Stop) → Gives P m → ((x : A) → P x → Gives Q (f x)) → Gives Q (m >>= f)
then_gives P Q (Ok x) f p k = k x p
then_gives P Q (Err stop) f p k = tt

pub bind_gives : {A B : Type 0} (Q : B → Type 0) (m : Result A Stop) (f : A → Result B Stop) → ((x : A) → m ≡ Ok x → Gives Q (f x)) → Gives Q (m >>= f)
bind_gives Q (Ok x) f k = k x refl
bind_gives Q (Err stop) f k = tt

-- the frames that a row leaves, if it goes on, name objects
abbrev pub Leaves : HeapState → Result FramesState Stop → Type 0
Leaves h r = Gives (λ (s : FramesState). FramesName h s.frames) r

pub bind_leaves : {A : Type 0} (h : HeapState) (m : Result A Stop) (f : A → Result FramesState Stop) → ((x : A) → m ≡ Ok x → Leaves h (f x)) → Leaves h (m >>= f)
bind_leaves h m f k = bind_gives (λ (s : FramesState). FramesName h s.frames) m f k

pub room_leaves : (h : HeapState) (k : ℕ) (s t : FramesState) → FramesName h t.frames → Leaves h (in_room k s t)
room_leaves h k s t n = elim (nat_lt (room_in s) k) as (λ (b : Bool). Leaves h (if b then Err no_room else Ok t)) [ true ↦ tt | false ↦ n ]

pub guard_leaves : (h : HeapState) (b : Bool) (r : Result FramesState Stop) → Leaves h r → Leaves h (if b then Err no_room else r)
guard_leaves h true r n = tt
guard_leaves h false r n = n

-- a wanted value is the one that was there
pub wanted_is : (kind : Kind) (v w : Value) → wanted kind v ≡ Ok w → v ≡ w
wanted_is kinds.Int (values.Int m) w e = cc
wanted_is kinds.Long (values.Long m) w e = cc
wanted_is kinds.Ref (values.Ref o) w e = cc
wanted_is kinds.Int (values.Long m) w e = absurd cc
wanted_is kinds.Int (values.Ref o) w e = absurd cc
wanted_is kinds.Int values.Top w e = absurd cc
wanted_is kinds.Long (values.Int m) w e = absurd cc
wanted_is kinds.Long (values.Ref o) w e = absurd cc
wanted_is kinds.Long values.Top w e = absurd cc
wanted_is kinds.Ref (values.Int m) w e = absurd cc
wanted_is kinds.Ref (values.Long m) w e = absurd cc
wanted_is kinds.Ref values.Top w e = absurd cc
wanted_is kinds.Top (values.Int m) w e = absurd cc
wanted_is kinds.Top (values.Long m) w e = absurd cc
wanted_is kinds.Top (values.Ref o) w e = absurd cc
wanted_is kinds.Top values.Top w e = absurd cc

pub wanted_names : (h : HeapState) (kind : Kind) (v w : Value) → wanted kind v ≡ Ok w → Names h v → Names h w
wanted_names h kind v w e n = subst (Names h) (wanted_is kind v w e) n

-- Rows of arrays keep it so that references name objects, of a heap that they change too.
use Rattle.std.proofs.Common.{◌≡◌, ℕ, zero, suc, ◌+◌, ◌-◌, ◌<◌, ◌≤◌, pos, length, List, [], ◌∷◌, ◌++◌, Bool, true, false, Option, Some, None, Result, Ok, Err, IsSome, slice_get, slice_set, replicate, refl, subst, sym, ap, arith, length-append}
use Rattle.std.specs.Prelude.{if◌then◌else◌, int_lt, unsigned_abs}
use Rattle.std.specs.List.{AllByRecursion}
use Rattle.std.specs.Option.{option_and_then, unwrap_or}
use Rattle.std.proofs.lemmas.List.{length-set}
use Rattle.jl_prim.specs.declared.numbers.ObjRef.{ObjRef}
use Rattle.jl_heap.specs.declared.value.Kind.{Kind}
use Rattle.jl_heap.specs.declared.value.Kind.TheVariants as kinds
use Rattle.jl_heap.specs.declared.value.Value.{Value}
use Rattle.jl_heap.specs.declared.value.Value.TheVariants as values
use Rattle.jl_heap.specs.declared.shape.Mirror.{Mirror}
use Rattle.jl_heap.specs.declared.shape.Mirror.TheVariants as mirrors
use Rattle.jl_heap.specs.declared.shape.Shape.{Shape}
use Rattle.jl_heap.specs.declared.shape.Shape.TheVariants as shapes
use Rattle.jl_heap.specs.declared.shape.Object.{Object}
use Rattle.jl_heap.specs.declared.store.Store.{Store}
use Rattle.jl_heap.specs.Values.{first_value}
use Rattle.jl_heap.specs.Objects.{slots_of, new_object, shape_slots}
use Rattle.jl_heap.specs.Frames.{FrameState, FramesState}
use Rattle.jl_heap.specs.Heap.{HeapState, at_number, object_at, slot_at, changed_at, with_changed, with_slot, with_object, is_full, next_number}
use Rattle.jl_heap.specs.Laws.{ObjectsStay}
use Rattle.jl_ops.specs.declared.row.Elements.{Elements}
use Rattle.jl_ops.specs.declared.row.Elements.TheVariants as elements
use Rattle.jl_ops.specs.declared.row.IntType.{IntType}
use Rattle.jl_ops.specs.declared.row.ArrayRow.{ArrayRow}
use Rattle.jl_ops.specs.declared.row.ArrayRow.TheVariants as array_rows
use Rattle.jl_ops.specs.declared.stop.Stop.{Stop}
use Rattle.jl_ops.specs.declared.stop.Stop.TheVariants as stops
use Rattle.jl_ops.specs.Arrays.{array_at, array_with, index_in, kept_of, element_loaded, int_stored, long_stored, measured, array_shape, with_array, made, in_frames, array_row}
use Rattle.jl_ops.specs.Operands.{int_under, long_under, ref_under, put, popped}
use Rattle.jl_ops.specs.Naming.{Names, FrameNames, MirrorNames, ShapeNames, ObjectNames, StaticsName, IsKept, AllName}
use Rattle.jl_ops.proofs.Naming.{OfSome, all_get, all_set, FramesName, put_names, popped_names, put_value_names, Gives, bind_gives, Leaves, bind_leaves}

-- ---- a heap that grows

-- what the one heap has, the other has too
abbrev pub Grows : HeapState → HeapState → Type 0
Grows h k = (o : ObjRef) → IsSome (object_at h o) → IsSome (object_at k o)

all_along : {X : Type 0} (P Q : X → Type 0) (xs : List X) → ((x : X) → P x → Q x) → AllByRecursion P xs → AllByRecursion Q xs
all_along P Q [] k a = tt
all_along P Q (x ∷ xs) k a = (k x a.0, all_along P Q xs k a.1)

grown_value : (h k : HeapState) → Grows h k → (v : Value) → Names h v → Names k v
grown_value h k g (values.Int m) n = tt
grown_value h k g (values.Long m) n = tt
grown_value h k g values.Top n = tt
grown_value h k g (values.Ref None) n = tt
grown_value h k g (values.Ref (Some o)) n = g o n

grown_values : (h k : HeapState) → Grows h k → (vs : List Value) → AllByRecursion (Names h) vs → AllByRecursion (Names k) vs
grown_values h k g vs a = all_along (Names h) (Names k) vs (grown_value h k g) a

grown_frames : (h k : HeapState) → Grows h k → (fs : List FrameState) → FramesName h fs → FramesName k fs
grown_frames h k g fs a = all_along (FrameNames h) (FrameNames k) fs (λ f m. record { locals = grown_values h k g f.locals m.locals; stack = grown_values h k g f.stack m.stack }) a

grown_mirror : (h k : HeapState) → Grows h k → (what : Mirror) → MirrorNames h what → MirrorNames k what
grown_mirror h k g (mirrors.Iter o given) n = g o n
grown_mirror h k g (mirrors.Class e) n = tt
grown_mirror h k g (mirrors.Module m) n = tt
grown_mirror h k g (mirrors.Layer l) n = tt
grown_mirror h k g (mirrors.Config c) n = tt
grown_mirror h k g (mirrors.Loader l) n = tt
grown_mirror h k g (mirrors.Control l) n = tt
grown_mirror h k g (mirrors.Field f b) n = tt
grown_mirror h k g (mirrors.Method m b) n = tt

grown_shape : (h k : HeapState) → Grows h k → (shape : Shape) → ShapeNames h shape → ShapeNames k shape
grown_shape h k g (shapes.Object c fields) n = tt
grown_shape h k g (shapes.Array e count) n = tt
grown_shape h k g (shapes.Text c units) n = tt
grown_shape h k g (shapes.List c items) n = tt
grown_shape h k g (shapes.Mirror c what) n = grown_mirror h k g what n

grown_object : (h k : HeapState) → Grows h k → (x : Object) → ObjectNames h x → ObjectNames k x
grown_object h k g x n = record { shape = grown_shape h k g x.shape n.shape; slots = grown_values h k g (slots_of x) n.slots }

grown_objects : (h k : HeapState) → Grows h k → (xs : List Object) → AllByRecursion (ObjectNames h) xs → AllByRecursion (ObjectNames k) xs
grown_objects h k g xs a = all_along (ObjectNames h) (ObjectNames k) xs (grown_object h k g) a

-- A store with another heap, which has what the old one has and whose objects are named, and with other frames.
pub in_heap : (s : Store) (k : HeapState) (f : FramesState) → Grows s.heap k → AllByRecursion (ObjectNames k) k.objects → FramesName k f.frames → AllName s → AllName (record s { heap = k; frames = f })
in_heap s k f g objects frames a = record {
  frames = frames;
  objects = objects;
  statics = all_along (StaticsName s.heap) (StaticsName k) s.statics (λ p n. grown_values s.heap k g p.1.values n) a.statics;
  kept = all_along (IsKept s.heap) (IsKept k) s.kept.pairs (λ p n. g p.1 n) a.kept;
  no_heap = g s.kept.no_heap a.no_heap;
  out = g s.kept.out a.out;
}

-- a store with other frames
pub in_other_frames : (s : Store) (f : FramesState) → FramesName s.heap f.frames → AllName s → AllName (record s { frames = f })
in_other_frames s f n a = record { frames = n; objects = a.objects; statics = a.statics; kept = a.kept; no_heap = a.no_heap; out = a.out }

-- ---- objects by their numbers

some_below : {X : Type 0} (xs : List X) (i : ℕ) → i < length xs → IsSome (slice_get xs i)
some_below [] i lt = absurd (omega arith)
some_below (x ∷ xs) zero lt = refl
some_below (x ∷ xs) (suc i) lt = some_below xs i (omega arith)

below_some : {X : Type 0} (xs : List X) (i : ℕ) → IsSome (slice_get xs i) → i < length xs
below_some [] i n = absurd cc
below_some (x ∷ xs) zero n = omega arith
below_some (x ∷ xs) (suc i) n = let lt : i < length xs = below_some xs i n in omega arith

longer_has : {X : Type 0} (xs ys : List X) (n : ℕ) → length xs ≤ length ys → IsSome (at_number xs n) → IsSome (at_number ys n)
longer_has xs ys zero le n = n
longer_has xs ys (suc i) le n = some_below ys i (let lt : i < length xs = below_some xs i n in omega arith)

pub longer_grows : (h k : HeapState) → length h.objects ≤ length k.objects → Grows h k
longer_grows h k le o n = longer_has h.objects k.objects o.0 le n

number_names : {X : Type 0} (P : X → Type 0) (xs : List X) (n : ℕ) → AllByRecursion P xs → OfSome P (at_number xs n)
number_names P xs zero a = tt
number_names P xs (suc i) a = all_get P xs i a

slot_of_names : (h : HeapState) (x : Option Object) (i : ℕ) → OfSome (ObjectNames h) x → OfSome (Names h) (option_and_then (λ (y : Object). slice_get (slots_of y) i) x)
slot_of_names h None i n = tt
slot_of_names h (Some x) i n = all_get (Names h) (slots_of x) i n.slots

unwrapped_names : (h : HeapState) (v : Option Value) → OfSome (Names h) v → Names h (unwrap_or v values.Top)
unwrapped_names h None n = tt
unwrapped_names h (Some v) n = n

slot_names : (h : HeapState) (o : ObjRef) (i : ℕ) → AllByRecursion (ObjectNames h) h.objects → Names h (unwrap_or (slot_at h o i) values.Top)
slot_names h o i a = unwrapped_names h (slot_at h o i) (slot_of_names h (object_at h o) i (number_names (ObjectNames h) h.objects o.0 a))

-- ---- what is changed

changed_some : {X : Type 0} (change : X → X) (xs : List X) (i : ℕ) (x : X) → slice_get xs i ≡ Some x → slice_set xs i (change x) ≡ changed_at i change xs
changed_some change xs i x e = rw e refl

changed_none : {X : Type 0} (change : X → X) (xs : List X) (i : ℕ) → slice_get xs i ≡ None → xs ≡ changed_at i change xs
changed_none change xs i e = rw e refl

changed_all_at : {X : Type 0} (P : X → Type 0) (change : X → X) (xs : List X) (i : ℕ) (o : Option X) → slice_get xs i ≡ o → ((x : X) → P x → P (change x)) → AllByRecursion P xs → AllByRecursion P (changed_at i change xs)
changed_all_at P change xs i None e k a = subst (AllByRecursion P) (changed_none change xs i e) a
changed_all_at P change xs i (Some x) e k a =
    subst (AllByRecursion P) (changed_some change xs i x e) (all_set P xs i (change x) (k x (subst (OfSome P) e (all_get P xs i a))) a)

changed_all : {X : Type 0} (P : X → Type 0) (change : X → X) (xs : List X) (i : ℕ) → ((x : X) → P x → P (change x)) → AllByRecursion P xs → AllByRecursion P (changed_at i change xs)
changed_all P change xs i k a = changed_all_at P change xs i (slice_get xs i) refl k a

changed_length_at : {X : Type 0} (change : X → X) (xs : List X) (i : ℕ) (o : Option X) → slice_get xs i ≡ o → length xs ≡ length (changed_at i change xs)
changed_length_at change xs i None e = ap length (changed_none change xs i e)
changed_length_at change xs i (Some x) e = subst (λ ys. length xs ≡ length ys) (changed_some change xs i x e) (sym (length-set xs i (change x)))

changed_length : {X : Type 0} (change : X → X) (xs : List X) (i : ℕ) → length xs ≡ length (changed_at i change xs)
changed_length change xs i = changed_length_at change xs i (slice_get xs i) refl

set_slot_names : (h : HeapState) (at : ℕ) (v : Value) (shape : Shape) (slots : List Value) → Names h v → ObjectNames h (record { shape = shape; slots = slots }) → ObjectNames h (with_slot at v (record { shape = shape; slots = slots }))
set_slot_names h at v (shapes.Object c fields) slots p n = record { shape = tt; slots = all_set (Names h) slots at v p n.slots }
set_slot_names h at v (shapes.Array e count) slots p n = record { shape = tt; slots = all_set (Names h) slots at v p n.slots }
set_slot_names h at v (shapes.Text c units) slots p n = record { shape = tt; slots = all_set (Names h) slots at v p n.slots }
set_slot_names h at v (shapes.List c items) slots p n = record { shape = tt; slots = all_set (Names h) items at v p n.slots }
set_slot_names h at v (shapes.Mirror c what) slots p n = record { shape = n.shape; slots = all_set (Names h) slots at v p n.slots }

-- The store behind a row that set a slot to what is no reference.
pub set_keeps : (s : Store) (o : ObjRef) (at : ℕ) (v : Value) (f : FramesState) → ((h : HeapState) → Names h v) → FramesName s.heap f.frames → AllName s
    → AllName (record s { heap = with_changed o (with_slot at v) s.heap; frames = f })
set_keeps s o at v f p n a =
    let k : HeapState = with_changed o (with_slot at v) s.heap in
    let len : length s.heap.objects ≡ length k.objects = changed_length (with_slot at v) s.heap.objects (o.0 - 1) in
    let g : Grows s.heap k = longer_grows s.heap k (omega arith) in
    in_heap s k f g
    (grown_objects s.heap k g k.objects (changed_all (ObjectNames s.heap) (with_slot at v) s.heap.objects (o.0 - 1) (λ x m. set_slot_names s.heap at v x.shape x.slots (p s.heap) m) a.objects))
    (grown_frames s.heap k g f.frames n) a

-- ---- the rows

popped3_names : (h : HeapState) (s : FramesState) → FramesName h s.frames → FramesName h (popped (popped (popped s))).frames
popped3_names h s n = popped_names h (popped (popped s)) (popped_names h (popped s) (popped_names h s n))

load_leaves : (wanted : Elements) (h : HeapState) (f : FramesState) → AllByRecursion (ObjectNames h) h.objects → FramesName h f.frames → Leaves h (element_loaded wanted h f)
unfolding element_loaded
load_leaves wanted h f a n =
    bind_leaves h (int_under f 0) _ (λ at e. bind_leaves h (ref_under f 1) _ (λ o e. bind_leaves h (array_with wanted h o) _ (λ x e. bind_leaves h (index_in x at) _ (λ i e.
    put_value_names h (unwrap_or (slot_at h x.object i) values.Top) (popped (popped f)) (slot_names h x.object i a) (popped_names h (popped f) (popped_names h f n))))))

measure_leaves : (h : HeapState) (f : FramesState) → FramesName h f.frames → Leaves h (measured h f)
unfolding measured
measure_leaves h f n = bind_leaves h (ref_under f 0) _ (λ o e. bind_leaves h (array_at h o) _ (λ x e. put_names h (values.Int _) (popped f) tt (popped_names h f n)))

int_kept : (of : IntType) (s : Store) → AllName s → Gives AllName (int_stored of s)
unfolding int_stored
int_kept of s a =
    bind_gives AllName (int_under s.frames 0) _ (λ m e. bind_gives AllName (int_under s.frames 1) _ (λ at e. bind_gives AllName (ref_under s.frames 2) _ (λ o e.
    bind_gives AllName (array_with (elements.Ints of) s.heap o) _ (λ x e. bind_gives AllName (index_in x at) _ (λ i e.
    set_keeps s x.object i (values.Int (kept_of of x.element m)) (popped (popped (popped s.frames))) (λ h. tt) (popped3_names s.heap s.frames a.frames) a)))))

long_kept : (s : Store) → AllName s → Gives AllName (long_stored s)
unfolding long_stored
long_kept s a =
    bind_gives AllName (long_under s.frames 0) _ (λ m e. bind_gives AllName (int_under s.frames 2) _ (λ at e. bind_gives AllName (ref_under s.frames 3) _ (λ o e.
    bind_gives AllName (array_with elements.Longs s.heap o) _ (λ x e. bind_gives AllName (index_in x at) _ (λ i e.
    set_keeps s x.object i (values.Long m) (popped (popped (popped (popped s.frames)))) (λ h. tt) (popped_names s.heap (popped (popped (popped s.frames))) (popped3_names s.heap s.frames a.frames)) a)))))

in_frames_gives : (s : Store) (r : Result FramesState Stop) → Leaves s.heap r → AllName s → Gives AllName (in_frames s r)
in_frames_gives s (Ok f) n a = in_other_frames s f n a
in_frames_gives s (Err stop) n a = tt

pub array_row_gives : (r : ArrayRow) (s : Store) → AllName s → Gives AllName (array_row r s)
unfolding array_row
array_row_gives (array_rows.Load wanted) s a = in_frames_gives s (element_loaded wanted s.heap s.frames) (load_leaves wanted s.heap s.frames a.objects a.frames) a
array_row_gives (array_rows.StoreInt of) s a = int_kept of s a
array_row_gives array_rows.StoreLong s a = long_kept s a
array_row_gives array_rows.Length s a = in_frames_gives s (measured s.heap s.frames) (measure_leaves s.heap s.frames a.frames) a

-- ---- a new array

all_append : {X : Type 0} (P : X → Type 0) (xs ys : List X) → AllByRecursion P xs → AllByRecursion P ys → AllByRecursion P (xs ++ ys)
all_append P [] ys a b = b
all_append P (x ∷ xs) ys a b = (a.0, all_append P xs ys a.1 b)

all_equal : {X : Type 0} (P : X → Type 0) (n : ℕ) (x : X) → P x → AllByRecursion P (replicate n x)
all_equal P zero x p = tt
all_equal P (suc n) x p = (p, all_equal P n x p)

first_names_nothing : (h : HeapState) (kind : Kind) → Names h (first_value kind)
first_names_nothing h kinds.Int = tt
first_names_nothing h kinds.Long = tt
first_names_nothing h kinds.Ref = tt
first_names_nothing h kinds.Top = tt

some_of : {X : Type 0} (o : Option X) (x : X) → o ≡ Some x → IsSome o
some_of (Some y) x e = refl
some_of None x e = absurd cc

array_keeps : ObjectsStay → (letter count : ℕ) (s : Store) → AllName s → AllName (with_array (array_shape letter count) s)
array_keeps stay letter count s a =
    let shape : Shape = array_shape letter count in
    let k : HeapState = with_object shape s.heap in
    let len : length k.objects ≡ length s.heap.objects + 1 = length-append s.heap.objects (new_object shape ∷ []) in
    let g : Grows s.heap k = longer_grows s.heap k (omega arith) in
    let there : IsSome (object_at k (next_number s.heap)) = some_of (object_at k (next_number s.heap)) (new_object shape) (stay.new shape s.heap) in
    in_heap s k (put (values.Ref (Some (next_number s.heap))) (popped s.frames)) g
    (all_append (ObjectNames k) s.heap.objects (new_object shape ∷ []) (grown_objects s.heap k g s.heap.objects a.objects)
    (record { shape = tt; slots = all_equal (Names k) count _ (first_names_nothing k _) }, tt))
    (put_names k (values.Ref (Some (next_number s.heap))) (popped s.frames) there (popped_names k s.frames (grown_frames s.heap k g s.frames.frames a.frames))) a

guard_gives : {B : Type 0} (P : B → Type 0) (b : Bool) (stop : Stop) (r : Result B Stop) → Gives P r → Gives P (if b then Err stop else r)
guard_gives P true stop r n = tt
guard_gives P false stop r n = n

pub made_gives : ObjectsStay → (letter : ℕ) (s : Store) → AllName s → Gives AllName (made letter s)
unfolding made
made_gives stay letter s a =
    bind_gives AllName (int_under s.frames 0) _ (λ m e.
    guard_gives AllName (int_lt m (pos 0)) (stops.Negative m) _
    (guard_gives AllName (is_full s.heap (shape_slots (array_shape letter (unsigned_abs m)))) stops.Full (Ok (with_array (array_shape letter (unsigned_abs m)) s)) (array_keeps stay letter (unsigned_abs m) s a)))

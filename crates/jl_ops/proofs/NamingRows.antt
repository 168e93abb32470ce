-- Rows of frames keep it so that references name objects.
use Rattle.std.proofs.Common.{ℕ, ◌+◌, ℤ, List, Bool, Option, Some, None, Result, Ok, nat_lt, option_map}
use Rattle.std.specs.Prelude.{⊤}
use Rattle.jl_reading.specs.Reading.{◌>>=◌}
use Rattle.jl_prim.specs.declared.numbers.ObjRef.{ObjRef}
use Rattle.jl_heap.specs.declared.value.Kind.{Kind}
use Rattle.jl_heap.specs.declared.value.Kind.TheVariants as kinds
use Rattle.jl_heap.specs.declared.value.Value.{Value}
use Rattle.jl_heap.specs.declared.value.Value.TheVariants as values
use Rattle.jl_heap.specs.Frames.{FramesState, without_frame, frame_at, room_of}
use Rattle.jl_heap.specs.Heap.{HeapState}
use Rattle.jl_ops.specs.declared.stop.Stop.{Stop}
use Rattle.jl_ops.specs.declared.row.StackOp.{StackOp}
use Rattle.jl_ops.specs.declared.row.StackOp.TheVariants as stack_ops
use Rattle.jl_ops.specs.declared.row.Test.{Test}
use Rattle.jl_ops.specs.declared.row.Test.TheVariants as tests
use Rattle.jl_ops.specs.declared.row.FrameRow.{FrameRow}
use Rattle.jl_ops.specs.declared.row.FrameRow.TheVariants as frame_rows
use Rattle.jl_ops.specs.Arithmetic.{int_result, long_result}
use Rattle.jl_ops.specs.Branches.{tested, branched, switched}
use Rattle.jl_ops.specs.FrameRows.{pushed, or_by_zero, ints_computed, longs_computed, long_shifted, int_changed, long_negated, widened, narrowed, longs_compared, unless_null, monitored, frame_row}
use Rattle.jl_ops.specs.Leaving.{handed, returned}
use Rattle.jl_ops.specs.Locals.{is_past, set_value, loaded, stored, increased}
use Rattle.jl_ops.specs.Operands.{slot_under, value_under, value_in_local, value_slots, kind_slots, wanted, int_of, int_under, long_under, ref_under, put, popped, put_value, without_top}
use Rattle.jl_ops.specs.Stacks.{whole_slot, whole_slots, one_under, two_under, pop, pop2, dup, dup_x1, dup_x2, dup2, dup2_x1, dup2_x2, swap, rearranged}
use Rattle.jl_ops.specs.Naming.{Names, FrameNames}
use Rattle.jl_ops.proofs.Naming.{OfSome, all_behind, FramesName, put_names, popped_names, place_names, local_names, put_value_names, without_top_names, set_value_names, slot_names, under_names, in_local_names, Gives, then_gives, bind_gives, Leaves, bind_leaves, room_leaves, guard_leaves, wanted_names}

-- ---- slots of the stack

one_leaves : (h : HeapState) (u : Option Value) (f : Value → Result FramesState Stop) → OfSome (Names h) u → ((a : Value) → Names h a → Leaves h (f a)) → Leaves h (whole_slot u >>= f)
one_leaves h None f n k = tt
one_leaves h (Some (values.Int m)) f n k = k (values.Int m) tt
one_leaves h (Some (values.Ref o)) f n k = k (values.Ref o) n
one_leaves h (Some (values.Long m)) f n k = tt
one_leaves h (Some values.Top) f n k = tt

-- two slots, each by itself
each_leaves : (h : HeapState) (u l : Option Value) (f : Value × Value → Result FramesState Stop) → OfSome (Names h) u → OfSome (Names h) l → ((a b : Value) → Names h a → Names h b → Leaves h (f (a, b))) → Leaves h ((whole_slot u >>= λ a. whole_slot l >>= λ b. Ok (a, b)) >>= f)
each_leaves h None l f n m k = tt
each_leaves h (Some (values.Long i)) l f n m k = tt
each_leaves h (Some values.Top) l f n m k = tt
each_leaves h (Some (values.Int i)) None f n m k = tt
each_leaves h (Some (values.Int i)) (Some (values.Int j)) f n m k = k (values.Int i) (values.Int j) tt tt
each_leaves h (Some (values.Int i)) (Some (values.Ref o)) f n m k = k (values.Int i) (values.Ref o) tt m
each_leaves h (Some (values.Int i)) (Some (values.Long j)) f n m k = tt
each_leaves h (Some (values.Int i)) (Some values.Top) f n m k = tt
each_leaves h (Some (values.Ref p)) None f n m k = tt
each_leaves h (Some (values.Ref p)) (Some (values.Int j)) f n m k = k (values.Ref p) (values.Int j) n tt
each_leaves h (Some (values.Ref p)) (Some (values.Ref o)) f n m k = k (values.Ref p) (values.Ref o) n m
each_leaves h (Some (values.Ref p)) (Some (values.Long j)) f n m k = tt
each_leaves h (Some (values.Ref p)) (Some values.Top) f n m k = tt

two_leaves : (h : HeapState) (u l : Option Value) (f : Value × Value → Result FramesState Stop) → OfSome (Names h) u → OfSome (Names h) l → ((a b : Value) → Names h a → Names h b → Leaves h (f (a, b))) → Leaves h (whole_slots u l >>= f)
two_leaves h (Some values.Top) (Some (values.Long j)) f n m k = k values.Top (values.Long j) tt tt
two_leaves h (Some values.Top) None f n m k = tt
two_leaves h (Some values.Top) (Some (values.Int j)) f n m k = tt
two_leaves h (Some values.Top) (Some (values.Ref o)) f n m k = tt
two_leaves h (Some values.Top) (Some values.Top) f n m k = tt
two_leaves h None l f n m k = tt
two_leaves h (Some (values.Long i)) l f n m k = tt
two_leaves h (Some (values.Int i)) l f n m k = each_leaves h (Some (values.Int i)) l f n m k
two_leaves h (Some (values.Ref o)) l f n m k = each_leaves h (Some (values.Ref o)) l f n m k

under_one : (h : HeapState) (s : FramesState) (d : ℕ) (f : Value → Result FramesState Stop) → FramesName h s.frames → ((a : Value) → Names h a → Leaves h (f a)) → Leaves h (one_under s d >>= f)
under_one h s d f n k = one_leaves h (slot_under s d) f (slot_names h s d n) k

under_two : (h : HeapState) (s : FramesState) (d : ℕ) (f : Value × Value → Result FramesState Stop) → FramesName h s.frames → ((a b : Value) → Names h a → Names h b → Leaves h (f (a, b))) → Leaves h (two_under s d >>= f)
under_two h s d f n k = two_leaves h (slot_under s d) (slot_under s (d + 1)) f (slot_names h s d n) (slot_names h s (d + 1) n) k

-- ---- families

abbrev popped2 : FramesState → FramesState
popped2 s = popped (popped s)

popped2_names : (h : HeapState) (s : FramesState) → FramesName h s.frames → FramesName h (popped2 s).frames
popped2_names h s n = popped_names h (popped s) (popped_names h s n)

abbrev popped4 : FramesState → FramesState
popped4 s = popped2 (popped2 s)

popped4_names : (h : HeapState) (s : FramesState) → FramesName h s.frames → FramesName h (popped4 s).frames
popped4_names h s n = popped2_names h (popped2 s) (popped2_names h s n)

pub stack_leaves : (h : HeapState) (op : StackOp) (s : FramesState) → FramesName h s.frames → Leaves h (rearranged op s)
unfolding rearranged pop pop2 dup dup_x1 dup_x2 dup2 dup2_x1 dup2_x2 swap
stack_leaves h stack_ops.Pop s n = under_one h s 0 _ n (λ a p. popped_names h s n)
stack_leaves h stack_ops.Pop2 s n = under_two h s 0 _ n (λ a b p q. popped2_names h s n)
stack_leaves h stack_ops.Dup s n = under_one h s 0 _ n (λ a p. room_leaves h 1 s (put a s) (put_names h a s p n))
stack_leaves h stack_ops.DupX1 s n =
    under_one h s 0 _ n (λ a p. under_one h s 1 _ n (λ b q.
    room_leaves h 1 s _ (put_names h a (put b (put a (popped2 s))) p (put_names h b (put a (popped2 s)) q (put_names h a (popped2 s) p (popped2_names h s n))))))
stack_leaves h stack_ops.DupX2 s n =
    let t = popped (popped2 s) in let m = popped_names h (popped2 s) (popped2_names h s n) in
    under_one h s 0 _ n (λ a p. under_two h s 1 _ n (λ b c q r.
    room_leaves h 1 s _ (put_names h a (put b (put c (put a t))) p (put_names h b (put c (put a t)) q (put_names h c (put a t) r (put_names h a t p m))))))
stack_leaves h stack_ops.Dup2 s n = under_two h s 0 _ n (λ a b p q. room_leaves h 2 s _ (put_names h a (put b s) p (put_names h b s q n)))
stack_leaves h stack_ops.Dup2X1 s n =
    let t = popped (popped2 s) in let m = popped_names h (popped2 s) (popped2_names h s n) in
    under_two h s 0 _ n (λ a b p q. under_one h s 2 _ n (λ c r.
    room_leaves h 2 s _ (put_names h a (put b (put c (put a (put b t)))) p (put_names h b (put c (put a (put b t))) q (put_names h c (put a (put b t)) r (put_names h a (put b t) p (put_names h b t q m)))))))
stack_leaves h stack_ops.Dup2X2 s n =
    let t = popped4 s in let m = popped4_names h s n in
    under_two h s 0 _ n (λ a b p q. under_two h s 2 _ n (λ c d r w.
    room_leaves h 2 s _ (put_names h a (put b (put c (put d (put a (put b t))))) p (put_names h b (put c (put d (put a (put b t)))) q (put_names h c (put d (put a (put b t))) r (put_names h d (put a (put b t)) w (put_names h a (put b t) p (put_names h b t q m))))))))
stack_leaves h stack_ops.Swap s n =
    under_one h s 0 _ n (λ a p. under_one h s 1 _ n (λ b q. put_names h b (put a (popped2 s)) q (put_names h a (popped2 s) p (popped2_names h s n))))

pub load_leaves : (h : HeapState) (kind : Kind) (local : ℕ) (s : FramesState) → FramesName h s.frames → Leaves h (loaded kind local s)
unfolding loaded
load_leaves h kind local s n =
    guard_leaves h (is_past kind local s) _ (bind_leaves h (wanted kind (value_in_local s local)) _ (λ v e.
    room_leaves h (kind_slots kind) s (put_value v s) (put_value_names h v s (wanted_names h kind (value_in_local s local) v e (in_local_names h s local n)) n)))

pub store_leaves : (h : HeapState) (kind : Kind) (local : ℕ) (s : FramesState) → FramesName h s.frames → Leaves h (stored kind local s)
unfolding stored
store_leaves h kind local s n =
    bind_leaves h (wanted kind (value_under s 0)) _ (λ v e.
    guard_leaves h (is_past kind local s) (Ok (set_value local v (without_top v s)))
    (set_value_names h local v (without_top v s) (wanted_names h kind (value_under s 0) v e (under_names h s 0 n)) (without_top_names h v s n)))

pub increase_leaves : (h : HeapState) (local : ℕ) (more : ℤ) (s : FramesState) → FramesName h s.frames → Leaves h (increased local more s)
unfolding increased
increase_leaves h local more s n =
    guard_leaves h (is_past kinds.Int local s) _ (bind_leaves h (int_of (value_in_local s local)) _ (λ m e. local_names h local _ s tt n))

present : (h : HeapState) (o : Option ObjRef) (t : FramesState) → FramesName h t.frames → Leaves h (unless_null o t)
present h None t m = tt
present h (Some o) t m = m

-- the constant that a row pushes names an object
abbrev pub RowNames : HeapState → FrameRow → Type 0
RowNames h (frame_rows.Constant v) = Names h v
RowNames h r = ⊤

pub frame_row_leaves : (h : HeapState) (r : FrameRow) (s : FramesState) → RowNames h r → FramesName h s.frames → Leaves h (frame_row r s)
unfolding frame_row pushed ints_computed longs_computed long_shifted int_changed long_negated widened narrowed longs_compared monitored
frame_row_leaves h frame_rows.Nothing s p n = n
frame_row_leaves h (frame_rows.Constant v) s p n = room_leaves h (value_slots v) s (put_value v s) (put_value_names h v s p n)
frame_row_leaves h (frame_rows.Load kind local) s p n = load_leaves h kind local s n
frame_row_leaves h (frame_rows.Store kind local) s p n = store_leaves h kind local s n
frame_row_leaves h (frame_rows.Increase local more) s p n = increase_leaves h local more s n
frame_row_leaves h (frame_rows.Stack op) s p n = stack_leaves h op s n
frame_row_leaves h (frame_rows.Ints op) s p n =
    bind_leaves h (int_under s 0) _ (λ b e. bind_leaves h (int_under s 1) _ (λ a f. bind_leaves h (or_by_zero (int_result op a b)) _ (λ m g.
    put_names h (values.Int m) (popped2 s) tt (popped2_names h s n))))
frame_row_leaves h (frame_rows.Longs op) s p n =
    bind_leaves h (long_under s 0) _ (λ b e. bind_leaves h (long_under s 2) _ (λ a f. bind_leaves h (or_by_zero (long_result op a b)) _ (λ m g.
    put_value_names h (values.Long m) (popped4 s) tt (popped4_names h s n))))
frame_row_leaves h (frame_rows.ShiftLong shift) s p n =
    bind_leaves h (int_under s 0) _ (λ b e. bind_leaves h (long_under s 1) _ (λ a f.
    put_value_names h (values.Long _) (popped (popped2 s)) tt (popped_names h (popped2 s) (popped2_names h s n))))
frame_row_leaves h frame_rows.NegateInt s p n = bind_leaves h (int_under s 0) _ (λ m e. put_names h (values.Int _) (popped s) tt (popped_names h s n))
frame_row_leaves h frame_rows.NegateLong s p n = bind_leaves h (long_under s 0) _ (λ m e. put_value_names h (values.Long _) (popped2 s) tt (popped2_names h s n))
frame_row_leaves h frame_rows.IntToLong s p n =
    bind_leaves h (int_under s 0) _ (λ m e. room_leaves h 1 s _ (put_value_names h (values.Long m) (popped s) tt (popped_names h s n)))
frame_row_leaves h frame_rows.LongToInt s p n = bind_leaves h (long_under s 0) _ (λ m e. put_names h (values.Int _) (popped2 s) tt (popped2_names h s n))
frame_row_leaves h (frame_rows.Cut to) s p n = bind_leaves h (int_under s 0) _ (λ m e. put_names h (values.Int _) (popped s) tt (popped_names h s n))
frame_row_leaves h frame_rows.CompareLongs s p n =
    bind_leaves h (long_under s 0) _ (λ b e. bind_leaves h (long_under s 2) _ (λ a f. put_names h (values.Int _) (popped4 s) tt (popped4_names h s n)))
frame_row_leaves h frame_rows.Monitor s p n = bind_leaves h (ref_under s 0) _ (λ o e. present h o (popped s) (popped_names h s n))

-- ---- branches and returns

-- the frames behind a test
abbrev TestNames : HeapState → Bool × FramesState → Type 0
TestNames h p = FramesName h p.1.frames

test_gives : (h : HeapState) (test : Test) (s : FramesState) → FramesName h s.frames → Gives (TestNames h) (tested test s)
unfolding tested
test_gives h tests.Always s n = n
test_gives h (tests.Zero condition) s n = bind_gives (TestNames h) (int_under s 0) _ (λ b e. popped_names h s n)
test_gives h (tests.Ints condition) s n = bind_gives (TestNames h) (int_under s 0) _ (λ b e. bind_gives (TestNames h) (int_under s 1) _ (λ a f. popped2_names h s n))
test_gives h (tests.Same wants) s n = bind_gives (TestNames h) (ref_under s 0) _ (λ b e. bind_gives (TestNames h) (ref_under s 1) _ (λ a f. popped2_names h s n))
test_gives h (tests.Null wants) s n = bind_gives (TestNames h) (ref_under s 0) _ (λ b e. popped_names h s n)

pub branch_leaves : (h : HeapState) (test : Test) (place next : ℕ) (s : FramesState) → FramesName h s.frames → Leaves h (branched test place next s)
unfolding branched
branch_leaves h test place next s n =
    then_gives (TestNames h) (λ (t : FramesState). FramesName h t.frames) (tested test s) _ (test_gives h test s n) (λ t m. place_names h _ t.1 m)

pub switch_leaves : (h : HeapState) (other : ℕ) (cases : List (ℤ × ℕ)) (s : FramesState) → FramesName h s.frames → Leaves h (switched other cases s)
unfolding switched
switch_leaves h other cases s n = bind_leaves h (int_under s 0) _ (λ key e. place_names h _ (popped s) (popped_names h s n))

handed_leaves : (h : HeapState) (v : Value) (room : Option ℕ) (s : FramesState) → Names h v → FramesName h s.frames → Leaves h (handed v room s)
handed_leaves h v None s p n = all_behind (FrameNames h) s.frames n
handed_leaves h v (Some room) s p n =
    guard_leaves h (nat_lt room (value_slots v)) (Ok (put_value v (without_frame s))) (put_value_names h v (without_frame s) p (all_behind (FrameNames h) s.frames n))

pub return_leaves : (h : HeapState) (kind : Option Kind) (s : FramesState) → FramesName h s.frames → Leaves h (returned kind s)
unfolding returned
return_leaves h None s n = all_behind (FrameNames h) s.frames n
return_leaves h (Some kind) s n =
    bind_leaves h (wanted kind (value_under s 0)) _ (λ v e. handed_leaves h v (option_map room_of (frame_at s 1)) s (wanted_names h kind (value_under s 0) v e (under_names h s 0 n)) n)

-- What instructions push names objects, and so each instruction that goes on keeps it so.
use Rattle.std.proofs.Common.{ℕ, ℤ, Bool, true, false, Option, Some, None, Result, Ok, option_map, subst, arith}
use Rattle.std.specs.Prelude.{⊤, ◌||◌, ◌==◌, if◌then◌else◌}
use Rattle.std.specs.Option.{option_or}
use Rattle.jl_reading.specs.Reading.{◌>>=◌}
use Rattle.jl_optable.specs.declared.ops.TheConstants as ops
use Rattle.jl_optable.specs.Rows.{is_within}
use Rattle.jl_code.specs.declared.code.Arg.{Arg}
use Rattle.jl_code.specs.declared.code.Arg.TheVariants as args
use Rattle.jl_code.specs.Locals.{local_of}
use Rattle.jl_heap.specs.declared.value.Kind.{Kind}
use Rattle.jl_heap.specs.declared.value.Value.{Value}
use Rattle.jl_heap.specs.declared.value.Value.TheVariants as values
use Rattle.jl_heap.specs.declared.store.Store.{Store}
use Rattle.jl_heap.specs.Frames.{FramesState}
use Rattle.jl_heap.specs.Heap.{HeapState}
use Rattle.jl_heap.specs.Laws.{ObjectsStay}
use Rattle.jl_ops.specs.declared.row.FrameRow.{FrameRow}
use Rattle.jl_ops.specs.declared.row.ArrayRow.{ArrayRow}
use Rattle.jl_ops.specs.declared.row.Test.{Test}
use Rattle.jl_ops.specs.declared.row.Row.{Row}
use Rattle.jl_ops.specs.declared.row.Row.TheVariants as rows
use Rattle.jl_ops.specs.declared.stop.Stop.{Stop}
use Rattle.jl_ops.specs.Arrays.{array_row, made}
use Rattle.jl_ops.specs.Branches.{branched, switched}
use Rattle.jl_ops.specs.Decoding.{constant_of, kind_loaded, kind_stored, stack_row, int_row, long_row, number_row, other_row, array_row as array_row_of, leaving_row, test_of, letter_named, constant, bare_row, local_row, hiding_row, numbered_row, row_for, row_of}
use Rattle.jl_ops.specs.FrameRows.{frame_row}
use Rattle.jl_ops.specs.Leaving.{returned, raised}
use Rattle.jl_ops.specs.Operands.{ref_under, at_place}
use Rattle.jl_ops.specs.Places.{next_place}
use Rattle.jl_ops.specs.Rows.{with_frames, standing, row_does, row_by, row}
use Rattle.jl_ops.specs.Naming.{Names, AllName, RowsKeepNames}
use Rattle.jl_ops.proofs.Naming.{OfSome, FramesName, place_names, Gives, then_gives, bind_gives, Leaves}
use Rattle.jl_ops.proofs.NamingHeaps.{in_other_frames, array_row_gives, made_gives}
use Rattle.jl_ops.proofs.NamingRows.{RowNames, frame_row_leaves, branch_leaves, switch_leaves, return_leaves}

-- ---- what instructions push

either : {X : Type 0} (P : X → Type 0) (b : Bool) (x y : Option X) → OfSome P x → OfSome P y → OfSome P (if b then x else y)
either P true x y n m = n
either P false x y n m = m

-- the constants of the rows of frames
abbrev Pushes : HeapState → Row → Type 0
Pushes h (rows.Frame r) = RowNames h r
Pushes h r = ⊤

in_frame : (h : HeapState) (r : Option FrameRow) → OfSome (RowNames h) r → OfSome (Pushes h) (option_map rows.Frame r)
in_frame h None n = tt
in_frame h (Some r) n = n

of_array : (h : HeapState) (r : Option ArrayRow) → OfSome (Pushes h) (option_map rows.Array r)
of_array h None = tt
of_array h (Some r) = tt

of_constant : (h : HeapState) (v : Option Value) → OfSome (Names h) v → OfSome (Pushes h) (option_map constant v)
of_constant h None n = tt
of_constant h (Some v) n = n

of_letter : (h : HeapState) (letter : Option ℕ) → OfSome (Pushes h) (option_map (λ letter. rows.NewArray letter) letter)
of_letter h None = tt
of_letter h (Some letter) = tt

of_test : (h : HeapState) (place : ℕ) (test : Option Test) → OfSome (Pushes h) (option_map (λ test. rows.Branch test place) test)
of_test h place None = tt
of_test h place (Some test) = tt

of_local : (h : HeapState) (from to : Option Kind) (local : ℕ) → OfSome (Pushes h) (local_row from to local)
of_local h (Some kind) to local = tt
of_local h None (Some kind) local = tt
of_local h None None local = tt

first_or : {X : Type 0} (P : X → Type 0) (x y : Option X) → OfSome P x → OfSome P y → OfSome P (option_or x y)
first_or P None y n m = m
first_or P (Some x) y n m = n

constants : (h : HeapState) (op : ℕ) → OfSome (Names h) (constant_of op)
unfolding constant_of
constants h op = grind arith

stacks : (h : HeapState) (op : ℕ) → OfSome (RowNames h) (stack_row op)
unfolding stack_row
stacks h op = grind arith

ints : (h : HeapState) (op : ℕ) → OfSome (RowNames h) (int_row op)
unfolding int_row
ints h op = grind arith

longs : (h : HeapState) (op : ℕ) → OfSome (RowNames h) (long_row op)
unfolding long_row
longs h op = grind arith

others : (h : HeapState) (op : ℕ) → OfSome (RowNames h) (other_row op)
unfolding other_row
others h op = grind arith

leavings : (h : HeapState) (op : ℕ) → OfSome (Pushes h) (leaving_row op)
unfolding leaving_row
leavings h op = grind arith

-- the families behind one
abbrev leaving_on : ℕ → Option Row
leaving_on op = if is_within ops.IRETURN ops.RETURN op || (op == ops.ATHROW) then leaving_row op else option_map rows.Frame (other_row op)

abbrev numbers_on : ℕ → Option Row
numbers_on op = if is_within ops.IADD ops.LXOR op then option_map rows.Frame (number_row op) else leaving_on op

abbrev stacks_on : ℕ → Option Row
stacks_on op = if is_within ops.POP ops.SWAP op then option_map rows.Frame (stack_row op) else numbers_on op

abbrev arrays_on : ℕ → Option Row
arrays_on op = if is_within ops.IALOAD ops.SASTORE op || (op == ops.ARRAYLENGTH) then option_map rows.Array (array_row_of op) else stacks_on op

bares : (h : HeapState) (op : ℕ) → OfSome (Pushes h) (bare_row op)
unfolding bare_row
bares h op =
    either (Pushes h) (is_within ops.ACONST_NULL ops.LCONST_1 op) (option_map constant (constant_of op)) (arrays_on op) (of_constant h (constant_of op) (constants h op))
    (either (Pushes h) (is_within ops.IALOAD ops.SASTORE op || (op == ops.ARRAYLENGTH)) (option_map rows.Array (array_row_of op)) (stacks_on op) (of_array h (array_row_of op))
    (either (Pushes h) (is_within ops.POP ops.SWAP op) (option_map rows.Frame (stack_row op)) (numbers_on op) (in_frame h (stack_row op) (stacks h op))
    (either (Pushes h) (is_within ops.IADD ops.LXOR op) (option_map rows.Frame (number_row op)) (leaving_on op)
    (in_frame h (number_row op) (first_or (RowNames h) (int_row op) (long_row op) (ints h op) (longs h op)))
    (either (Pushes h) (is_within ops.IRETURN ops.RETURN op || (op == ops.ATHROW)) (leaving_row op) (option_map rows.Frame (other_row op)) (leavings h op) (in_frame h (other_row op) (others h op))))))

numbers : (h : HeapState) (op : ℕ) (n : ℤ) → OfSome (Pushes h) (numbered_row op n)
numbers h op n = either (Pushes h) (op == ops.NEWARRAY) (option_map (λ letter. rows.NewArray letter) (letter_named n)) (Some (constant (values.Int n))) (of_letter h (letter_named n)) tt

hidings : (h : HeapState) (op : ℕ) (local : Option ℕ) → OfSome (Pushes h) (hiding_row op local)
hidings h op None = bares h op
hidings h op (Some local) = of_local h (kind_loaded op) (kind_stored op) local

pushes : (h : HeapState) (op : ℕ) (arg : Arg) → OfSome (Pushes h) (row_for op arg)
pushes h op args.Nothing = hidings h op (local_of op args.Nothing)
pushes h op (args.Local local) = of_local h (kind_loaded op) (kind_stored op) local
pushes h op (args.Inc local more) = tt
pushes h op (args.Number n) = numbers h op n
pushes h op (args.Long n) = tt
pushes h op (args.Target place) = of_test h place (test_of op)
pushes h op (args.Switch other cases) = tt
pushes h op (args.Index i) = tt
pushes h op (args.Multi i count) = tt

-- ---- what instructions do

-- other frames, where a row goes on
framed : (s : Store) (r : Result FramesState Stop) → Leaves s.heap r → AllName s → Gives AllName (r >>= λ f. Ok (with_frames f s))
framed s r n a = then_gives (λ (f : FramesState). FramesName s.heap f.frames) AllName r _ n (λ f m. in_other_frames s f m a)

stands : (place : ℕ) (s : Store) → AllName s → AllName (standing place s)
stands place s a = in_other_frames s (at_place place s.frames) (place_names s.heap place s.frames a.frames) a

does_gives : ObjectsStay → (r : Row) (next : ℕ) (s : Store) → Pushes s.heap r → AllName s → Gives AllName (row_does r next s)
unfolding raised
does_gives stay (rows.Frame r) next s p a =
    then_gives (λ (f : FramesState). FramesName s.heap f.frames) AllName (frame_row r s.frames) _ (frame_row_leaves s.heap r s.frames p a.frames)
    (λ f m. stands next (with_frames f s) (in_other_frames s f m a))
does_gives stay (rows.Array r) next s p a = then_gives AllName AllName (array_row r s) _ (array_row_gives r s a) (λ t b. stands next t b)
does_gives stay (rows.NewArray letter) next s p a = then_gives AllName AllName (made letter s) _ (made_gives stay letter s a) (λ t b. stands next t b)
does_gives stay (rows.Branch test place) next s p a = framed s (branched test place next s.frames) (branch_leaves s.heap test place next s.frames a.frames) a
does_gives stay (rows.Return kind) next s p a = framed s (returned kind s.frames) (return_leaves s.heap kind s.frames a.frames) a
does_gives stay rows.Throw next s p a = framed s (raised s.frames) (bind_gives (λ (f : FramesState). FramesName s.heap f.frames) (ref_under s.frames 0) _ (λ o e. tt)) a

some_does : ObjectsStay → (arg : Arg) (r : Option Row) (next : ℕ) (s : Store) → OfSome (Pushes s.heap) r → AllName s → Gives AllName (row_by arg r next s)
some_does stay (args.Switch other cases) r next s p a = framed s (switched other cases s.frames) (switch_leaves s.heap other cases s.frames a.frames) a
some_does stay args.Nothing (Some r) next s p a = does_gives stay r next s p a
some_does stay args.Nothing None next s p a = tt
some_does stay (args.Local local) (Some r) next s p a = does_gives stay r next s p a
some_does stay (args.Local local) None next s p a = tt
some_does stay (args.Inc local more) (Some r) next s p a = does_gives stay r next s p a
some_does stay (args.Inc local more) None next s p a = tt
some_does stay (args.Number n) (Some r) next s p a = does_gives stay r next s p a
some_does stay (args.Number n) None next s p a = tt
some_does stay (args.Long n) (Some r) next s p a = does_gives stay r next s p a
some_does stay (args.Long n) None next s p a = tt
some_does stay (args.Target place) (Some r) next s p a = does_gives stay r next s p a
some_does stay (args.Target place) None next s p a = tt
some_does stay (args.Index i) (Some r) next s p a = does_gives stay r next s p a
some_does stay (args.Index i) None next s p a = tt
some_does stay (args.Multi i count) (Some r) next s p a = does_gives stay r next s p a
some_does stay (args.Multi i count) None next s p a = tt

pub rows_keep : ObjectsStay → RowsKeepNames
unfolding row
rows_keep stay i s t e a = subst (Gives AllName) e (some_does stay i.arg (row_of i) (next_place i) s (pushes s.heap i.op i.arg) a)

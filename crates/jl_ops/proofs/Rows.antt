-- Worked rows of the definitions.
use Rattle.std.proofs.Common.{◌≡◌, ℕ, pos, negsuc, List, [], ◌∷◌, true, false, Some, None, Result, Ok, Err, replicate, codes, refl}
use Rattle.jl_optable.specs.declared.ops.TheConstants as ops
use Rattle.jl_optable.specs.Rows.{has_row, is_stub, operands_of, form_of}
use Rattle.jl_code.specs.declared.code.Arg.{Arg}
use Rattle.jl_code.specs.declared.code.Arg.TheVariants as args
use Rattle.jl_code.specs.declared.code.Instr.{Instr}
use Rattle.jl_code.specs.declared.code.Code.TheVariants as code_kinds
use Rattle.jl_prim.specs.declared.error_kind.ErrorKind.TheVariants as errors
use Rattle.jl_heap.specs.declared.frame.FrameKind.TheVariants as frame_kinds
use Rattle.jl_heap.specs.declared.shape.Base.TheVariants as bases
use Rattle.jl_heap.specs.declared.shape.Shape.TheVariants as shapes
use Rattle.jl_heap.specs.declared.shape.Object.{Object}
use Rattle.jl_heap.specs.declared.store.Store.{Store}
use Rattle.jl_heap.specs.declared.value.Kind.TheVariants as kinds
use Rattle.jl_heap.specs.declared.value.Value.{Value}
use Rattle.jl_heap.specs.declared.value.Value.TheVariants as values
use Rattle.jl_heap.specs.declared.ends.RowEnd.TheVariants as ends
use Rattle.jl_heap.specs.Frames.{FrameState}
use Rattle.jl_ops.specs.declared.stop.Stop.{Stop}
use Rattle.jl_ops.specs.declared.stop.Stop.TheVariants as stops
use Rattle.jl_ops.specs.Arrays.{element_loaded, int_stored, long_stored, measured, made, array_row}
use Rattle.jl_ops.specs.Branches.{tested, branched, switched}
use Rattle.jl_ops.specs.Decoding.{constant_of, kind_loaded, kind_stored, stack_row, int_row, long_row, other_row, array_row as array_row_of, leaving_row, test_of, letter_named, bare_row}
use Rattle.jl_ops.specs.FrameRows.{pushed, ints_computed, longs_computed, long_shifted, int_changed, long_negated, widened, narrowed, longs_compared, monitored, frame_row}
use Rattle.jl_ops.specs.Leaving.{returned, raised}
use Rattle.jl_ops.specs.Locals.{loaded, stored, increased}
use Rattle.jl_ops.specs.Naming.{Names}
use Rattle.jl_ops.specs.Places.{next_place}
use Rattle.jl_ops.specs.Rows.{row, instr_under}
use Rattle.jl_ops.specs.Stacks.{pop, pop2, dup, dup_x1, dup_x2, dup2, dup2_x1, dup2_x2, swap, rearranged}
use Rattle.jl_ops.specs.Stops.{end_of}

-- ---- what a row makes of a stack

abbrev no_value : Value
no_value = values.Top

abbrev int : ℕ → Value
int n = values.Int (pos n)

abbrev long : ℕ → Value
long n = values.Long (pos n)

-- a frame of six slots on its stack, with two locals
abbrev frame : ℕ → List Value → FrameState
frame place stack = record {
  kind = frame_kinds.Method (record { 0 = 1 });
  max_stack = 6;
  max_locals = 2;
  pc = place;
  locals = int 8 ∷ no_value ∷ [];
  stack = stack;
}

-- object 1 is an array of two booleans
abbrev store : List Value → Store
store stack = record {
  heap = record { objects = record { shape = shapes.Array (record { base = bases.Prim 90; dims = 0 }) 2; slots = int 0 ∷ int 0 ∷ [] } ∷ []; used = 3 };
  frames = record { task = 1; frames = frame 10 stack ∷ frame 20 (int 9 ∷ []) ∷ [] };
  statics = [];
  kept = record { pairs = []; no_heap = record { 0 = 1 }; out = record { 0 = 1 } };
}

-- the place of the top frame and its stack
abbrev stack_of : List FrameState → ℕ × List Value
stack_of [] = (0, [])
stack_of (f ∷ below) = (f.pc, f.stack)

abbrev left : Result Store Stop → Result (ℕ × List Value) Stop
left (Ok s) = Ok (stack_of s.frames.frames)
left (Err stop) = Err stop

-- an instruction at place 10, on a stack from the top down
done : ℕ → Arg → List Value → Result (ℕ × List Value) Stop
unfolding row bare_row constant_of kind_loaded kind_stored stack_row int_row long_row other_row array_row_of leaving_row test_of letter_named frame_row pushed ints_computed longs_computed long_shifted int_changed long_negated widened narrowed longs_compared monitored loaded stored increased rearranged pop pop2 dup dup_x1 dup_x2 dup2 dup2_x1 dup2_x2 swap array_row element_loaded int_stored long_stored measured made tested branched switched returned raised has_row is_stub operands_of form_of
done op arg stack = left (row (record { at = 10; op = op; wide = false; arg = arg }) (store stack))

a_constant : done ops.ICONST_5 args.Nothing [] ≡ Ok (11, int 5 ∷ [])
unfolding done
a_constant = refl

a_byte : done ops.BIPUSH (args.Number (negsuc 0)) [] ≡ Ok (12, values.Int (negsuc 0) ∷ [])
unfolding done
a_byte = refl

a_load : done ops.ILOAD (args.Local 0) [] ≡ Ok (12, int 8 ∷ [])
unfolding done
a_load = refl

a_load_of_nothing : done ops.ALOAD_1 args.Nothing [] ≡ Err (stops.Stuck kinds.Ref kinds.Top)
unfolding done
a_load_of_nothing = refl

a_load_past_the_locals : done ops.LLOAD_1 args.Nothing [] ≡ Err (stops.Stuck kinds.Top kinds.Top)
unfolding done
a_load_past_the_locals = refl

a_store : done ops.LSTORE_0 args.Nothing (no_value ∷ long 4 ∷ int 1 ∷ []) ≡ Ok (11, int 1 ∷ [])
unfolding done
a_store = refl

a_difference : done ops.ISUB args.Nothing (int 2 ∷ int 7 ∷ []) ≡ Ok (11, int 5 ∷ [])
unfolding done
a_difference = refl

a_sum_that_wraps : done ops.IADD args.Nothing (int 1 ∷ int 2147483647 ∷ []) ≡ Ok (11, values.Int (negsuc 2147483647) ∷ [])
unfolding done
a_sum_that_wraps = refl

a_division_by_zero : done ops.LDIV args.Nothing (no_value ∷ long 0 ∷ no_value ∷ long 7 ∷ []) ≡ Err stops.ZeroDivisor
unfolding done
a_division_by_zero = refl

-- the upper operand is asked for first
two_wrong_kinds : done ops.IADD args.Nothing (no_value ∷ long 2 ∷ values.Ref None ∷ []) ≡ Err (stops.Stuck kinds.Int kinds.Long)
unfolding done
two_wrong_kinds = refl

a_missing_operand : done ops.IADD args.Nothing (int 2 ∷ []) ≡ Err (stops.Stuck kinds.Int kinds.Top)
unfolding done
a_missing_operand = refl

a_shift_past_31 : done ops.ISHL args.Nothing (int 33 ∷ int 3 ∷ []) ≡ Ok (11, int 6 ∷ [])
unfolding done
a_shift_past_31 = refl

a_shift_of_a_long : done ops.LUSHR args.Nothing (int 65 ∷ no_value ∷ long 6 ∷ []) ≡ Ok (11, no_value ∷ long 3 ∷ [])
unfolding done
a_shift_of_a_long = refl

a_char : done ops.I2C args.Nothing (values.Int (negsuc 0) ∷ []) ≡ Ok (11, int 65535 ∷ [])
unfolding done
a_char = refl

longs_compared_as_less : done ops.LCMP args.Nothing (no_value ∷ long 2 ∷ no_value ∷ long 1 ∷ []) ≡ Ok (11, values.Int (negsuc 0) ∷ [])
unfolding done
longs_compared_as_less = refl

a_copy_under_a_long : done ops.DUP_X2 args.Nothing (int 3 ∷ no_value ∷ long 1 ∷ []) ≡ Ok (11, int 3 ∷ no_value ∷ long 1 ∷ int 3 ∷ [])
unfolding done
a_copy_under_a_long = refl

a_long_that_is_cut : done ops.DUP_X1 args.Nothing (int 3 ∷ no_value ∷ long 1 ∷ []) ≡ Err (stops.Stuck kinds.Top kinds.Top)
unfolding done
a_long_that_is_cut = refl

no_room_for_a_copy : done ops.DUP2 args.Nothing (replicate 5 (int 1)) ≡ Err (stops.Stuck kinds.Top kinds.Top)
unfolding done
no_room_for_a_copy = refl

a_branch_that_is_taken : done ops.IF_ICMPLT (args.Target 70) (int 2 ∷ int 1 ∷ []) ≡ Ok (70, [])
unfolding done
a_branch_that_is_taken = refl

a_branch_that_is_not : done ops.IFNULL (args.Target 70) (values.Ref (Some (record { 0 = 1 })) ∷ []) ≡ Ok (13, [])
unfolding done
a_branch_that_is_not = refl

a_case : done ops.LOOKUPSWITCH (args.Switch 90 ((pos 1, 70) ∷ (pos 2, 80) ∷ [])) (int 2 ∷ []) ≡ Ok (80, [])
unfolding done
a_case = refl

no_case : done ops.TABLESWITCH (args.Switch 90 ((pos 1, 70) ∷ (pos 2, 80) ∷ [])) (int 3 ∷ []) ≡ Ok (90, [])
unfolding done
no_case = refl

abbrev booleans : Value
booleans = values.Ref (Some (record { 0 = 1 }))

an_element : done ops.BALOAD args.Nothing (int 1 ∷ booleans ∷ []) ≡ Ok (11, int 0 ∷ [])
unfolding done
an_element = refl

an_element_of_chars : done ops.CALOAD args.Nothing (int 1 ∷ booleans ∷ []) ≡ Err (stops.Stuck kinds.Ref kinds.Ref)
unfolding done
an_element_of_chars = refl

no_element : done ops.BALOAD args.Nothing (int 2 ∷ booleans ∷ []) ≡ Err (stops.OutOfBounds (pos 2) 2)
unfolding done
no_element = refl

no_array : done ops.BALOAD args.Nothing (int 2 ∷ values.Ref None ∷ []) ≡ Err stops.Null
unfolding done
no_array = refl

a_new_array : done ops.NEWARRAY (args.Number (pos 10)) (int 3 ∷ []) ≡ Ok (12, values.Ref (Some (record { 0 = 2 })) ∷ [])
unfolding done
a_new_array = refl

a_full_heap : done ops.NEWARRAY (args.Number (pos 10)) (int 16777214 ∷ []) ≡ Err stops.Full
unfolding done
a_full_heap = refl

-- the frame below stays at its place
a_return : done ops.IRETURN args.Nothing (int 3 ∷ []) ≡ Ok (20, int 3 ∷ int 9 ∷ [])
unfolding done
a_return = refl

a_throw : done ops.ATHROW args.Nothing (booleans ∷ []) ≡ Err (stops.Raised (record { 0 = 1 }))
unfolding done
a_throw = refl

-- ---- what an array of booleans keeps

abbrev slots_of_all : List Object → List (List Value)
slots_of_all [] = []
slots_of_all (o ∷ os) = o.slots ∷ slots_of_all os

abbrev slots_left : Result Store Stop → List (List Value)
slots_left (Ok s) = slots_of_all s.heap.objects
slots_left (Err stop) = []

kept : ℕ → List Value → List (List Value)
unfolding row bare_row array_row_of array_row int_stored
kept op stack = slots_left (row (record { at = 10; op = op; wide = false; arg = args.Nothing }) (store stack))

the_low_bit : kept ops.BASTORE (int 3 ∷ int 1 ∷ booleans ∷ []) ≡ (int 0 ∷ int 1 ∷ []) ∷ []
unfolding kept
the_low_bit = refl

-- ---- places

abbrev wide_inc : Instr
wide_inc = record { at = 10; op = ops.IINC; wide = true; arg = args.Inc 0 (pos 1) }

behind_a_wide_iinc : next_place wide_inc ≡ 16
behind_a_wide_iinc = refl

the_instruction_at_hand : instr_under (code_kinds.Instructions (wide_inc ∷ [])) (store []) ≡ Some wide_inc
the_instruction_at_hand = refl

-- ---- ends

a_message : end_of stops.ZeroDivisor ≡ ends.Throws errors.ArithmeticException (Some (codes "/ by zero"))
a_message = refl

no_message : end_of stops.Null ≡ ends.Throws errors.NullPointerException None
no_message = refl

-- ---- references

a_reference : Names (store []).heap booleans
a_reference = refl

a_reference_to_nothing : Names (store []).heap (values.Ref (Some (record { 0 = 2 }))) → ⊥
a_reference_to_nothing n = absurd cc

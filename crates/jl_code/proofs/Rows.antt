-- Worked rows of the definitions.
use Rattle.std.proofs.Common.{◌≡◌, ℕ, arith, inl, Bool, List, Result, [], ◌∷◌, Ok, Err, Some, None, true, false, refl}
use Rattle.std.specs.Prelude.{pos, negsuc}
use lib.Utf8.{encode}
use Rattle.jl_reading.specs.Reading.{each_at}
use Rattle.jl_names.specs.Descriptors.{descriptor_read, method_at, field_at, params_at, param_at, type_at, base_at, brackets, name_end, result_at}
use Rattle.jl_prim.specs.declared.declaration.Handler.{Handler}
use Rattle.jl_pool.specs.declared.entry.Entry.{Entry}
use Rattle.jl_pool.specs.declared.entry.Entry.TheVariants as entries
use Rattle.jl_optable.specs.Rows.{form_of, has_row, is_stub, operands_of}
use Rattle.jl_optable.specs.declared.ops.TheConstants as ops
use Rattle.jl_optable.specs.declared.form.Operands.TheVariants as kinds
use Rattle.jl_names.specs.Text.{plain, has_no_lone_surrogate}
use Rattle.jl_code.specs.declared.code.Arg.{Arg}
use Rattle.jl_code.specs.declared.code.Instr.{Instr}
use Rattle.jl_code.specs.Spelling.{InstrStands, IsCode}
use Rattle.jl_code.specs.Sound.{PlacesRise, names_entry, has_shape, may_be_wide}
use Rattle.jl_code.specs.PlaceTables.{index_in}
use Rattle.jl_code.specs.Locals.{local_of}
use Rattle.jl_code.specs.declared.fault.CodeFault.{CodeFault}
use Rattle.jl_code.specs.declared.code.Code.{Code}
use Rattle.jl_code.specs.declared.fault.CodeFault.TheVariants as faults
use Rattle.jl_code.specs.declared.code.Arg.TheVariants as args
use Rattle.jl_code.specs.declared.code.Code.TheVariants as codes
use Rattle.jl_code.specs.Operands.{branch_at, inc_at, wide_inc_at, table_at, case_at, lookup_at, lookup_case}
use Rattle.jl_code.specs.References.{is_right_index, class_text, member_tag, member_class, member_name, member_desc}
use Rattle.jl_code.specs.Instructions.{instr_at, plain_at, wide_at, wide_arg_at, arg_at, byte_at, short_at, local_at, index_at, interface_at, dynamic_at, multi_at}
use Rattle.jl_code.specs.Stubs.{makes_stub}
use Rattle.jl_code.specs.Places.{places_from, next_place, end_at, wide_end, table_end, lookup_end}
use Rattle.jl_code.specs.Walking.{walk_on}
use Rattle.jl_code.specs.Decoding.{code_of, first_where}

-- ()V
abbrev to_void : List ℕ
to_void = 40 ∷ 41 ∷ 86 ∷ []

-- classes f and [[I, the method (J)V of a class and of an interface, the long 5, and a float
abbrev some_pool : List Entry
some_pool = entries.Unused ∷ entries.Utf8 (102 ∷ []) ∷ entries.Class 1 ∷ entries.Utf8 (40 ∷ 74 ∷ 41 ∷ 86 ∷ []) ∷ entries.NameAndType 1 3 ∷ entries.Method 2 4 ∷ entries.InterfaceMethod 2 4 ∷ entries.Utf8 (91 ∷ 91 ∷ 73 ∷ []) ∷ entries.Class 7 ∷ entries.Long 5 ∷ entries.Unused ∷ entries.Float 0 ∷ []

-- decoding, with all of its words
decoded : List Entry → List ℕ → List ℕ → List Handler → Result Code CodeFault
unfolding code_of places_from next_place end_at wide_end table_end lookup_end walk_on instr_at form_of has_row is_stub operands_of plain_at wide_at wide_arg_at arg_at byte_at short_at local_at index_at interface_at dynamic_at multi_at branch_at inc_at wide_inc_at table_at case_at lookup_at lookup_case is_right_index makes_stub first_where each_at descriptor_read method_at field_at params_at param_at type_at base_at brackets name_end result_at
decoded pool desc code handlers = code_of pool desc code handlers

no_code : code_of [] to_void [] [] ≡ Err faults.Empty
unfolding decoded
no_code = refl

two_instructions : code_of [] to_void (3 ∷ 176 ∷ []) [] ≡ Ok (codes.Instructions (record { at = 0; op = 3; wide = false; arg = args.Nothing } ∷ record { at = 1; op = 176; wide = false; arg = args.Nothing } ∷ []))
unfolding decoded
two_instructions = refl

no_opcode : code_of [] to_void (168 ∷ []) [] ≡ Err (faults.UnknownOp 0)
unfolding decoded
no_opcode = refl

a_cut_operand : code_of [] to_void (16 ∷ []) [] ≡ Err (faults.ShortOperand 0)
unfolding decoded
a_cut_operand = refl

a_branch_past_the_end : code_of [] to_void (167 ∷ 0 ∷ 5 ∷ []) [] ≡ Err (faults.BadTarget 0)
unfolding decoded
a_branch_past_the_end = refl

a_float : code_of [] to_void (11 ∷ 87 ∷ 177 ∷ []) [] ≡ Ok (codes.Stub (Some 11))
unfolding decoded
a_float = refl

a_fault_before_a_stub : code_of [] to_void (11 ∷ 16 ∷ []) [] ≡ Err (faults.ShortOperand 1)
unfolding decoded
a_fault_before_a_stub = refl

a_branch_back : code_of [] to_void (0 ∷ 167 ∷ 255 ∷ 255 ∷ []) [] ≡ Ok (codes.Instructions (record { at = 0; op = 0; wide = false; arg = args.Nothing } ∷ record { at = 1; op = 167; wide = false; arg = args.Target 0 } ∷ []))
unfolding decoded
a_branch_back = refl

-- the places 1 and 2 are inside the instruction
a_branch_into_an_instruction : code_of [] to_void (167 ∷ 0 ∷ 1 ∷ []) [] ≡ Err (faults.BadTarget 0)
unfolding decoded
a_branch_into_an_instruction = refl

a_branch_before_a_later_fault : code_of [] to_void (167 ∷ 0 ∷ 4 ∷ 0 ∷ 168 ∷ []) [] ≡ Err (faults.BadTarget 0)
unfolding decoded
a_branch_before_a_later_fault = refl

a_branch_past_a_later_fault : code_of [] to_void (167 ∷ 0 ∷ 5 ∷ 18 ∷ 0 ∷ 177 ∷ []) [] ≡ Err (faults.BadIndex 3)
unfolding decoded
a_branch_past_a_later_fault = refl

a_branch_past_a_later_branch : code_of [] to_void (167 ∷ 0 ∷ 6 ∷ 167 ∷ 0 ∷ 100 ∷ 177 ∷ []) [] ≡ Err (faults.BadTarget 3)
unfolding decoded
a_branch_past_a_later_branch = refl

a_branch_into_what_is_not_right : code_of [] to_void (167 ∷ 0 ∷ 4 ∷ 18 ∷ 0 ∷ 177 ∷ []) [] ≡ Err (faults.BadTarget 0)
unfolding decoded
a_branch_into_what_is_not_right = refl

a_signed_byte : code_of [] to_void (16 ∷ 255 ∷ []) [] ≡ Ok (codes.Instructions (record { at = 0; op = 16; wide = false; arg = args.Number (negsuc 0) } ∷ []))
unfolding decoded
a_signed_byte = refl

a_wide_local : code_of [] to_void (196 ∷ 21 ∷ 1 ∷ 2 ∷ []) [] ≡ Ok (codes.Instructions (record { at = 0; op = 21; wide = true; arg = args.Local 258 } ∷ []))
unfolding decoded
a_wide_local = refl

a_wide_inc : code_of [] to_void (196 ∷ 132 ∷ 0 ∷ 1 ∷ 255 ∷ 254 ∷ []) [] ≡ Ok (codes.Instructions (record { at = 0; op = 132; wide = true; arg = args.Inc 1 (negsuc 1) } ∷ []))
unfolding decoded
a_wide_inc = refl

wide_before_another : code_of [] to_void (196 ∷ 0 ∷ 0 ∷ 0 ∷ []) [] ≡ Err (faults.UnknownOp 0)
unfolding decoded
wide_before_another = refl

-- the padding may be anything
a_table : code_of [] to_void (170 ∷ 1 ∷ 2 ∷ 3 ∷ 0 ∷ 0 ∷ 0 ∷ 0 ∷ 0 ∷ 0 ∷ 0 ∷ 5 ∷ 0 ∷ 0 ∷ 0 ∷ 6 ∷ 0 ∷ 0 ∷ 0 ∷ 0 ∷ 0 ∷ 0 ∷ 0 ∷ 24 ∷ 0 ∷ []) [] ≡ Ok (codes.Instructions (record { at = 0; op = 170; wide = false; arg = args.Switch 0 ((pos 5, 0) ∷ (pos 6, 24) ∷ []) } ∷ record { at = 24; op = 0; wide = false; arg = args.Nothing } ∷ []))
unfolding decoded
a_table = refl

a_falling_table : code_of [] to_void (170 ∷ 0 ∷ 0 ∷ 0 ∷ 0 ∷ 0 ∷ 0 ∷ 0 ∷ 0 ∷ 0 ∷ 0 ∷ 6 ∷ 0 ∷ 0 ∷ 0 ∷ 5 ∷ []) [] ≡ Err (faults.BadTarget 0)
unfolding decoded
a_falling_table = refl

-- a table that is not whole comes before a wrong offset
a_cut_table : code_of [] to_void (170 ∷ 0 ∷ 0 ∷ 0 ∷ 0 ∷ 0 ∷ 0 ∷ 99 ∷ 0 ∷ 0 ∷ 0 ∷ 5 ∷ 0 ∷ 0 ∷ 0 ∷ 5 ∷ []) [] ≡ Err (faults.ShortOperand 0)
unfolding decoded
a_cut_table = refl

a_lookup : code_of [] to_void (0 ∷ 171 ∷ 0 ∷ 0 ∷ 0 ∷ 0 ∷ 0 ∷ 19 ∷ 0 ∷ 0 ∷ 0 ∷ 1 ∷ 255 ∷ 255 ∷ 255 ∷ 255 ∷ 0 ∷ 0 ∷ 0 ∷ 0 ∷ 0 ∷ []) [] ≡ Ok (codes.Instructions (record { at = 0; op = 0; wide = false; arg = args.Nothing } ∷ record { at = 1; op = 171; wide = false; arg = args.Switch 20 ((negsuc 0, 1) ∷ []) } ∷ record { at = 20; op = 0; wide = false; arg = args.Nothing } ∷ []))
unfolding decoded
a_lookup = refl

a_lookup_that_rises : code_of [] to_void (0 ∷ 0 ∷ 0 ∷ 171 ∷ 0 ∷ 0 ∷ 0 ∷ 0 ∷ 0 ∷ 0 ∷ 0 ∷ 2 ∷ 255 ∷ 255 ∷ 255 ∷ 255 ∷ 0 ∷ 0 ∷ 0 ∷ 0 ∷ 0 ∷ 0 ∷ 0 ∷ 7 ∷ 0 ∷ 0 ∷ 0 ∷ 0 ∷ []) [] ≡ Ok (codes.Instructions (record { at = 0; op = 0; wide = false; arg = args.Nothing } ∷ record { at = 1; op = 0; wide = false; arg = args.Nothing } ∷ record { at = 2; op = 0; wide = false; arg = args.Nothing } ∷ record { at = 3; op = 171; wide = false; arg = args.Switch 3 ((negsuc 0, 3) ∷ (pos 7, 3) ∷ []) } ∷ []))
unfolding decoded
a_lookup_that_rises = refl

a_lookup_with_equal_keys : code_of [] to_void (0 ∷ 0 ∷ 0 ∷ 171 ∷ 0 ∷ 0 ∷ 0 ∷ 0 ∷ 0 ∷ 0 ∷ 0 ∷ 2 ∷ 0 ∷ 0 ∷ 0 ∷ 7 ∷ 0 ∷ 0 ∷ 0 ∷ 0 ∷ 0 ∷ 0 ∷ 0 ∷ 7 ∷ 0 ∷ 0 ∷ 0 ∷ 0 ∷ []) [] ≡ Err (faults.BadTarget 3)
unfolding decoded
a_lookup_with_equal_keys = refl

a_lookup_with_a_negative_count : code_of [] to_void (0 ∷ 0 ∷ 0 ∷ 171 ∷ 0 ∷ 0 ∷ 0 ∷ 0 ∷ 255 ∷ 255 ∷ 255 ∷ 255 ∷ []) [] ≡ Err (faults.BadTarget 3)
unfolding decoded
a_lookup_with_a_negative_count = refl

a_float_array : code_of [] to_void (188 ∷ 6 ∷ []) [] ≡ Ok (codes.Stub (Some 188))
unfolding decoded
a_float_array = refl

an_int_array : code_of [] to_void (188 ∷ 10 ∷ []) [] ≡ Ok (codes.Instructions (record { at = 0; op = 188; wide = false; arg = args.Number (pos 10) } ∷ []))
unfolding decoded
an_int_array = refl

no_array_type : code_of [] to_void (188 ∷ 3 ∷ []) [] ≡ Err (faults.BadIndex 0)
unfolding decoded
no_array_type = refl

a_method_of_floats : code_of [] (40 ∷ 70 ∷ 41 ∷ 86 ∷ []) (0 ∷ []) [] ≡ Ok (codes.Stub None)
unfolding decoded
a_method_of_floats = refl

a_method_of_float_arrays : code_of [] (40 ∷ 91 ∷ 70 ∷ 41 ∷ 86 ∷ []) (0 ∷ []) [] ≡ Ok (codes.Instructions (record { at = 0; op = 0; wide = false; arg = args.Nothing } ∷ []))
unfolding decoded
a_method_of_float_arrays = refl

no_method_descriptor : code_of [] (70 ∷ []) (0 ∷ []) [] ≡ Ok (codes.Instructions (record { at = 0; op = 0; wide = false; arg = args.Nothing } ∷ []))
unfolding decoded
no_method_descriptor = refl

a_long : code_of some_pool to_void (20 ∷ 0 ∷ 9 ∷ []) [] ≡ Ok (codes.Instructions (record { at = 0; op = 20; wide = false; arg = args.Long (pos 5) } ∷ []))
unfolding decoded
a_long = refl

a_long_by_ldc : code_of some_pool to_void (18 ∷ 9 ∷ []) [] ≡ Err (faults.BadIndex 0)
unfolding decoded
a_long_by_ldc = refl

a_float_constant : code_of some_pool to_void (18 ∷ 11 ∷ []) [] ≡ Ok (codes.Stub (Some 18))
unfolding decoded
a_float_constant = refl

a_handler : code_of [] to_void (0 ∷ 0 ∷ []) (record { start = 0; end = 2; target = 1; catch_type = 0 } ∷ []) ≡ Ok (codes.Instructions (record { at = 0; op = 0; wide = false; arg = args.Nothing } ∷ record { at = 1; op = 0; wide = false; arg = args.Nothing } ∷ []))
unfolding decoded
a_handler = refl

an_empty_handler : code_of [] to_void (0 ∷ 0 ∷ []) (record { start = 0; end = 2; target = 1; catch_type = 0 } ∷ record { start = 1; end = 1; target = 1; catch_type = 0 } ∷ []) ≡ Err (faults.BadRange 1)
unfolding decoded
an_empty_handler = refl

a_handler_of_no_class : code_of [] to_void (0 ∷ 0 ∷ []) (record { start = 0; end = 1; target = 1; catch_type = 1 } ∷ []) ≡ Err (faults.BadRange 0)
unfolding decoded
a_handler_of_no_class = refl

a_handler_before_a_stub : code_of [] to_void (11 ∷ []) (record { start = 0; end = 1; target = 1; catch_type = 0 } ∷ []) ≡ Err (faults.BadRange 0)
unfolding decoded
a_handler_before_a_stub = refl

-- ---- what instructions name

abbrev instr : ℕ → Arg → Instr
instr op arg = record { at = 0; op = op; wide = false; arg = arg }

a_hidden_local : (local_of ops.ILOAD_0 args.Nothing ≡ Some 0) × (local_of ops.ALOAD_3 args.Nothing ≡ Some 3) × (local_of ops.LSTORE_2 args.Nothing ≡ Some 2) × (local_of ops.ASTORE_1 args.Nothing ≡ Some 1)
a_hidden_local = (refl, refl, refl, refl)

the_same_by_numbers : (local_of 26 args.Nothing ≡ Some 0) × (local_of 33 args.Nothing ≡ Some 3) × (local_of 45 args.Nothing ≡ Some 3) × (local_of 59 args.Nothing ≡ Some 0) × (local_of 78 args.Nothing ≡ Some 3)
the_same_by_numbers = (refl, refl, refl, refl, refl)

a_local : (local_of ops.ALOAD (args.Local 7) ≡ Some 7) × (local_of ops.IINC (args.Inc 300 (negsuc 0)) ≡ Some 300)
a_local = (refl, refl)

no_local : (local_of ops.IALOAD args.Nothing ≡ None) × (local_of ops.SASTORE args.Nothing ≡ None) × (local_of ops.BIPUSH (args.Number (pos 1)) ≡ None)
no_local = (refl, refl, refl)

a_class_text : (class_text some_pool 2 ≡ Some (102 ∷ [])) × (class_text some_pool 8 ≡ Some (91 ∷ 91 ∷ 73 ∷ [])) × (class_text some_pool 5 ≡ None)
unfolding plain encode
a_class_text = (refl, refl, refl)

a_member : (member_tag some_pool 5 ≡ Some 10) × (member_class some_pool 5 ≡ Some (102 ∷ [])) × (member_name some_pool 5 ≡ Some (102 ∷ [])) × (member_desc some_pool 5 ≡ Some (40 ∷ 74 ∷ 41 ∷ 86 ∷ []))
unfolding plain encode has_no_lone_surrogate
a_member = (refl, refl, refl, refl)

no_member : (member_tag some_pool 2 ≡ None) × (member_class some_pool 2 ≡ None) × (member_name some_pool 2 ≡ None) × (member_desc some_pool 2 ≡ None)
no_member = (refl, refl, refl, refl)

-- new makes no array, checkcast takes one
an_array_is_named : (names_entry some_pool ops.NEW kinds.Index2 (args.Index 8) ≡ false) × (names_entry some_pool ops.CHECKCAST kinds.Index2 (args.Index 8) ≡ true)
unfolding is_right_index brackets plain encode
an_array_is_named = (refl, refl)

-- operands in the form that the opcode asks for
abbrev fits : ℕ → Arg → Bool
fits op arg = has_shape op (operands_of op) arg

operands_that_fit : (fits ops.NOP args.Nothing ≡ true) × (fits ops.NEWARRAY (args.Number (pos 10)) ≡ true) × (fits ops.SIPUSH (args.Number (negsuc 0)) ≡ true) × (fits ops.ALOAD (args.Local 7) ≡ true) × (fits ops.LDC (args.Index 2) ≡ true)
    × (fits ops.GETFIELD (args.Index 2) ≡ true) × (fits ops.INVOKEINTERFACE (args.Index 6) ≡ true) × (fits ops.MULTIANEWARRAY (args.Multi 8 2) ≡ true) × (fits ops.IINC (args.Inc 1 (pos 1)) ≡ true)
    × (fits ops.IFNULL (args.Target 0) ≡ true) × (fits ops.GOTO_W (args.Target 0) ≡ true) × (fits ops.TABLESWITCH (args.Switch 0 []) ≡ true) × (fits ops.LOOKUPSWITCH (args.Switch 0 []) ≡ true)
unfolding operands_of
operands_that_fit = (refl, refl, refl, refl, refl, refl, refl, refl, refl, refl, refl, refl, refl)

-- the opcode of wide is no instruction's
operands_that_do_not : (fits ops.NOP (args.Number (pos 0)) ≡ false) × (fits ops.ILOAD args.Nothing ≡ false) × (fits ops.IINC (args.Local 1) ≡ false) × (fits ops.MULTIANEWARRAY (args.Index 8) ≡ false) × (fits ops.GOTO (args.Index 3) ≡ false) × (fits ops.WIDE args.Nothing ≡ false)
unfolding operands_of
operands_that_do_not = (refl, refl, refl, refl, refl, refl)

-- of ldc2_w there is the long, of ldc_w the index
constants_that_fit : (fits ops.LDC2_W (args.Long (pos 5)) ≡ true) × (fits ops.LDC2_W (args.Index 9) ≡ false) × (fits ops.LDC_W (args.Index 2) ≡ true) × (fits ops.LDC_W (args.Long (pos 5)) ≡ false) × (fits ops.LDC (args.Long (pos 5)) ≡ false)
unfolding operands_of
constants_that_fit = (refl, refl, refl, refl, refl)

-- the first and the last load and store, and iinc, and not those beside them
abbrev widens : ℕ → Bool
widens op = may_be_wide (record { at = 0; op = op; wide = true; arg = args.Local 300 })

widened : (widens ops.ILOAD ≡ true) × (widens ops.ALOAD ≡ true) × (widens ops.ISTORE ≡ true) × (widens ops.ASTORE ≡ true) × (widens ops.IINC ≡ true)
    × (widens ops.LDC2_W ≡ false) × (widens ops.ILOAD_0 ≡ false) × (widens ops.SALOAD ≡ false) × (widens ops.ISTORE_0 ≡ false) × (widens ops.I2L ≡ false) × (widens ops.WIDE ≡ false)
widened = (refl, refl, refl, refl, refl, refl, refl, refl, refl, refl, refl)

-- the second instruction begins at 2
two_places : (index_in (Some 0 ∷ None ∷ Some 1 ∷ []) 2 ≡ Some 1) × (index_in (Some 0 ∷ None ∷ Some 1 ∷ []) 1 ≡ None) × (index_in (Some 0 ∷ None ∷ Some 1 ∷ []) 3 ≡ None)
two_places = (refl, refl, refl)

places_that_rise : PlacesRise (record (instr 0 args.Nothing) { at = 0 } ∷ record (instr 0 args.Nothing) { at = 2 } ∷ [])
places_that_rise = ((omega arith, tt), (tt, tt))

-- ---- code by its spelling

abbrev nop : Instr
nop = instr ops.NOP args.Nothing

nop_stands : InstrStands [] (0 ∷ []) 0 nop 1
unfolding has_row operands_of
nop_stands = inl (record {
  place = refl;
  plain = refl;
  row = refl;
  narrow = refl;
  opcode = record { fits = omega arith; stands = record { there = refl; ends = refl; within = omega arith } };
  operands = (refl, refl);
})

one_nop : IsCode [] to_void (0 ∷ []) [] (codes.Instructions (nop ∷ []))
unfolding decoded
one_nop = record { instrs = nop ∷ []; stand = (1, nop_stands, refl); some = omega arith; lead = refl; handled = refl; kind = refl }

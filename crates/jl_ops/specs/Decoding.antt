-- Which row an instruction has (JVMS 6.5), by its opcode and its operands.
use Rattle.std.specs.Prelude.{ℕ, ℤ, pos, ◌-ℤ◌, Option, None, Some, Bool, true, false, option_map, ◌||◌, ◌==◌, if◌then◌else◌}
use Rattle.std.specs.Option.{is_some, option_or}
use Rattle.std.specs.Ordering.{int_eq}
use Rattle.jl_optable.specs.Rows.{is_within}
use Rattle.jl_optable.specs.declared.ops.TheConstants as ops
use Rattle.jl_code.specs.declared.code.Arg.{Arg}
use Rattle.jl_code.specs.declared.code.Arg.TheVariants as args
use Rattle.jl_code.specs.declared.code.Instr.{Instr}
use Rattle.jl_code.specs.Locals.{local_of}
use Rattle.jl_heap.specs.declared.value.Kind.{Kind}
use Rattle.jl_heap.specs.declared.value.Kind.TheVariants as kinds
use Rattle.jl_heap.specs.declared.value.Value.{Value}
use Rattle.jl_heap.specs.declared.value.Value.TheVariants as values
use Rattle.jl_ops.specs.declared.row.IntOp.TheVariants as int_ops
use Rattle.jl_ops.specs.declared.row.LongOp.TheVariants as long_ops
use Rattle.jl_ops.specs.declared.row.Shift.TheVariants as shifts
use Rattle.jl_ops.specs.declared.row.IntType.TheVariants as int_types
use Rattle.jl_ops.specs.declared.row.StackOp.TheVariants as stack_ops
use Rattle.jl_ops.specs.declared.row.Condition.TheVariants as conditions
use Rattle.jl_ops.specs.declared.row.Test.{Test}
use Rattle.jl_ops.specs.declared.row.Test.TheVariants as tests
use Rattle.jl_ops.specs.declared.row.FrameRow.{FrameRow}
use Rattle.jl_ops.specs.declared.row.FrameRow.TheVariants as frame_rows
use Rattle.jl_ops.specs.declared.row.Elements.TheVariants as elements
use Rattle.jl_ops.specs.declared.row.ArrayRow.{ArrayRow}
use Rattle.jl_ops.specs.declared.row.ArrayRow.TheVariants as array_rows
use Rattle.jl_ops.specs.declared.row.Row.{Row}
use Rattle.jl_ops.specs.declared.row.Row.TheVariants as rows
use Rattle.jl_ops.specs.declared.type_letters.TheConstants as letters

-- ---- by the opcode alone

-- null, -1 to 5, and the longs 0 and 1
unfoldable pub constant_of : ℕ → Option Value
constant_of op =
    if op == ops.ACONST_NULL then Some (values.Ref None)
    else if is_within ops.ICONST_M1 ops.ICONST_5 op then Some (values.Int (pos op -ℤ pos ops.ICONST_0))
    else if is_within ops.LCONST_0 ops.LCONST_1 op then Some (values.Long (pos op -ℤ pos ops.LCONST_0))
    else None

-- the kind that a load puts on the stack
unfoldable pub kind_loaded : ℕ → Option Kind
kind_loaded op =
    if (op == ops.ILOAD) || is_within ops.ILOAD_0 ops.ILOAD_3 op then Some kinds.Int
    else if (op == ops.LLOAD) || is_within ops.LLOAD_0 ops.LLOAD_3 op then Some kinds.Long
    else if (op == ops.ALOAD) || is_within ops.ALOAD_0 ops.ALOAD_3 op then Some kinds.Ref
    else None

-- the kind that a store takes from the stack
unfoldable pub kind_stored : ℕ → Option Kind
kind_stored op =
    if (op == ops.ISTORE) || is_within ops.ISTORE_0 ops.ISTORE_3 op then Some kinds.Int
    else if (op == ops.LSTORE) || is_within ops.LSTORE_0 ops.LSTORE_3 op then Some kinds.Long
    else if (op == ops.ASTORE) || is_within ops.ASTORE_0 ops.ASTORE_3 op then Some kinds.Ref
    else None

-- the rows that take, copy or swap slots of the stack
unfoldable pub stack_row : ℕ → Option FrameRow
stack_row op =
    if op == ops.POP then Some (frame_rows.Stack stack_ops.Pop)
    else if op == ops.POP2 then Some (frame_rows.Stack stack_ops.Pop2)
    else if op == ops.DUP then Some (frame_rows.Stack stack_ops.Dup)
    else if op == ops.DUP_X1 then Some (frame_rows.Stack stack_ops.DupX1)
    else if op == ops.DUP_X2 then Some (frame_rows.Stack stack_ops.DupX2)
    else if op == ops.DUP2 then Some (frame_rows.Stack stack_ops.Dup2)
    else if op == ops.DUP2_X1 then Some (frame_rows.Stack stack_ops.Dup2X1)
    else if op == ops.DUP2_X2 then Some (frame_rows.Stack stack_ops.Dup2X2)
    else if op == ops.SWAP then Some (frame_rows.Stack stack_ops.Swap)
    else None

-- the rows that compute with ints alone
unfoldable pub int_row : ℕ → Option FrameRow
int_row op =
    if op == ops.IADD then Some (frame_rows.Ints int_ops.Add)
    else if op == ops.ISUB then Some (frame_rows.Ints int_ops.Sub)
    else if op == ops.IMUL then Some (frame_rows.Ints int_ops.Mul)
    else if op == ops.IDIV then Some (frame_rows.Ints int_ops.Div)
    else if op == ops.IREM then Some (frame_rows.Ints int_ops.Rem)
    else if op == ops.INEG then Some frame_rows.NegateInt
    else if op == ops.ISHL then Some (frame_rows.Ints (int_ops.Shift shifts.Left))
    else if op == ops.ISHR then Some (frame_rows.Ints (int_ops.Shift shifts.Right))
    else if op == ops.IUSHR then Some (frame_rows.Ints (int_ops.Shift shifts.UnsignedRight))
    else if op == ops.IAND then Some (frame_rows.Ints int_ops.And)
    else if op == ops.IOR then Some (frame_rows.Ints int_ops.Or)
    else if op == ops.IXOR then Some (frame_rows.Ints int_ops.Xor)
    else None

-- the rows that compute with longs
unfoldable pub long_row : ℕ → Option FrameRow
long_row op =
    if op == ops.LADD then Some (frame_rows.Longs long_ops.Add)
    else if op == ops.LSUB then Some (frame_rows.Longs long_ops.Sub)
    else if op == ops.LMUL then Some (frame_rows.Longs long_ops.Mul)
    else if op == ops.LDIV then Some (frame_rows.Longs long_ops.Div)
    else if op == ops.LREM then Some (frame_rows.Longs long_ops.Rem)
    else if op == ops.LNEG then Some frame_rows.NegateLong
    else if op == ops.LSHL then Some (frame_rows.ShiftLong shifts.Left)
    else if op == ops.LSHR then Some (frame_rows.ShiftLong shifts.Right)
    else if op == ops.LUSHR then Some (frame_rows.ShiftLong shifts.UnsignedRight)
    else if op == ops.LAND then Some (frame_rows.Longs long_ops.And)
    else if op == ops.LOR then Some (frame_rows.Longs long_ops.Or)
    else if op == ops.LXOR then Some (frame_rows.Longs long_ops.Xor)
    else None

-- conversions, lcmp, nop, and the monitor rows
unfoldable pub other_row : ℕ → Option FrameRow
other_row op =
    if op == ops.I2L then Some frame_rows.IntToLong
    else if op == ops.L2I then Some frame_rows.LongToInt
    else if op == ops.I2B then Some (frame_rows.Cut int_types.Byte)
    else if op == ops.I2C then Some (frame_rows.Cut int_types.Char)
    else if op == ops.I2S then Some (frame_rows.Cut int_types.Short)
    else if op == ops.LCMP then Some frame_rows.CompareLongs
    else if op == ops.NOP then Some frame_rows.Nothing
    else if is_within ops.MONITORENTER ops.MONITOREXIT op then Some frame_rows.Monitor
    else None

-- the rows of arrays: aastore is none of these, since it asks for classes
unfoldable pub array_row : ℕ → Option ArrayRow
array_row op =
    if op == ops.IALOAD then Some (array_rows.Load (elements.Ints int_types.Int))
    else if op == ops.LALOAD then Some (array_rows.Load elements.Longs)
    else if op == ops.AALOAD then Some (array_rows.Load elements.References)
    else if op == ops.BALOAD then Some (array_rows.Load (elements.Ints int_types.Byte))
    else if op == ops.CALOAD then Some (array_rows.Load (elements.Ints int_types.Char))
    else if op == ops.SALOAD then Some (array_rows.Load (elements.Ints int_types.Short))
    else if op == ops.IASTORE then Some (array_rows.StoreInt int_types.Int)
    else if op == ops.LASTORE then Some array_rows.StoreLong
    else if op == ops.BASTORE then Some (array_rows.StoreInt int_types.Byte)
    else if op == ops.CASTORE then Some (array_rows.StoreInt int_types.Char)
    else if op == ops.SASTORE then Some (array_rows.StoreInt int_types.Short)
    else if op == ops.ARRAYLENGTH then Some array_rows.Length
    else None

-- the rows that leave the method
unfoldable pub leaving_row : ℕ → Option Row
leaving_row op =
    if op == ops.IRETURN then Some (rows.Return (Some kinds.Int))
    else if op == ops.LRETURN then Some (rows.Return (Some kinds.Long))
    else if op == ops.ARETURN then Some (rows.Return (Some kinds.Ref))
    else if op == ops.RETURN then Some (rows.Return None)
    else if op == ops.ATHROW then Some rows.Throw
    else None

-- when a branch is taken
unfoldable pub test_of : ℕ → Option Test
test_of op =
    if op == ops.IFEQ then Some (tests.Zero conditions.Equal)
    else if op == ops.IFNE then Some (tests.Zero conditions.NotEqual)
    else if op == ops.IFLT then Some (tests.Zero conditions.Less)
    else if op == ops.IFGE then Some (tests.Zero conditions.GreaterOrEqual)
    else if op == ops.IFGT then Some (tests.Zero conditions.Greater)
    else if op == ops.IFLE then Some (tests.Zero conditions.LessOrEqual)
    else if op == ops.IF_ICMPEQ then Some (tests.Ints conditions.Equal)
    else if op == ops.IF_ICMPNE then Some (tests.Ints conditions.NotEqual)
    else if op == ops.IF_ICMPLT then Some (tests.Ints conditions.Less)
    else if op == ops.IF_ICMPGE then Some (tests.Ints conditions.GreaterOrEqual)
    else if op == ops.IF_ICMPGT then Some (tests.Ints conditions.Greater)
    else if op == ops.IF_ICMPLE then Some (tests.Ints conditions.LessOrEqual)
    else if op == ops.IF_ACMPEQ then Some (tests.Same true)
    else if op == ops.IF_ACMPNE then Some (tests.Same false)
    else if op == ops.IFNULL then Some (tests.Null true)
    else if op == ops.IFNONNULL then Some (tests.Null false)
    else if (op == ops.GOTO) || (op == ops.GOTO_W) then Some tests.Always
    else None

-- ---- by the operands too

-- the letter of the type that newarray names by a number: none of float and double
unfoldable pub letter_named : ℤ → Option ℕ
letter_named n =
    if int_eq n letters.T_BOOLEAN then Some letters.BOOLEAN
    else if int_eq n letters.T_CHAR then Some letters.CHAR
    else if int_eq n letters.T_BYTE then Some letters.BYTE
    else if int_eq n letters.T_SHORT then Some letters.SHORT
    else if int_eq n letters.T_INT then Some letters.INT
    else if int_eq n letters.T_LONG then Some letters.LONG
    else None

-- a constant that is pushed
abbrev pub constant : Value → Row
constant v = rows.Frame (frame_rows.Constant v)

-- a row that computes with ints or with longs
abbrev pub number_row : ℕ → Option FrameRow
number_row op = option_or (int_row op) (long_row op)

-- a row of its opcode alone: of its family, in the order of opcodes
unfoldable pub bare_row : ℕ → Option Row
bare_row op =
    if is_within ops.ACONST_NULL ops.LCONST_1 op then option_map constant (constant_of op)
    else if is_within ops.IALOAD ops.SASTORE op || (op == ops.ARRAYLENGTH) then option_map rows.Array (array_row op)
    else if is_within ops.POP ops.SWAP op then option_map rows.Frame (stack_row op)
    else if is_within ops.IADD ops.LXOR op then option_map rows.Frame (number_row op)
    else if is_within ops.IRETURN ops.RETURN op || (op == ops.ATHROW) then leaving_row op
    else option_map rows.Frame (other_row op)

-- a load or a store of a local
abbrev pub local_row : Option Kind → Option Kind → ℕ → Option Row
local_row (Some kind) to local = Some (rows.Frame (frame_rows.Load kind local))
local_row None (Some kind) local = Some (rows.Frame (frame_rows.Store kind local))
local_row None None local = None

-- an opcode that names a local itself, or none
abbrev pub hiding_row : ℕ → Option ℕ → Option Row
hiding_row op (Some local) = local_row (kind_loaded op) (kind_stored op) local
hiding_row op None = bare_row op

-- what a number behind an opcode is: the type of a new array, or a constant
abbrev pub numbered_row : ℕ → ℤ → Option Row
numbered_row op n =
    if op == ops.NEWARRAY then option_map (λ letter. rows.NewArray letter) (letter_named n)
    else Some (constant (values.Int n))

-- the row of an opcode with its operands
abbrev pub row_for : ℕ → Arg → Option Row
row_for op args.Nothing = hiding_row op (local_of op args.Nothing)
row_for op (args.Local local) = local_row (kind_loaded op) (kind_stored op) local
row_for op (args.Inc local more) = Some (rows.Frame (frame_rows.Increase local more))
row_for op (args.Number n) = numbered_row op n
row_for op (args.Long n) = Some (constant (values.Long n))
row_for op (args.Target place) = option_map (λ test. rows.Branch test place) (test_of op)
row_for op arg = None

-- The row of an instruction. A switch has none, since it is executed by its operands, and neither have instructions that ask for classes or make a stub.
abbrev pub row_of : Instr → Option Row
row_of i = row_for i.op i.arg

-- the operands of a switch
abbrev pub is_switch : Arg → Bool
is_switch (args.Switch other cases) = true
is_switch arg = false

-- an instruction that is executed here
abbrev pub is_plain : Instr → Bool
is_plain i = is_switch i.arg || is_some (row_of i)

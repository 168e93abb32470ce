-- One instruction at a place, right in itself, and the place after it (JVMS 4.9.1, 6.5).
use Rattle.std.specs.Prelude.{ℕ, List, Option, None, Some, Result, Ok, Err, Bool, true, false, not, ◌&&◌, ◌||◌, ◌==◌, if◌then◌else◌, ℤ}
use Rattle.std.specs.Int.{cast_signed, w8, w16, w32}
use Rattle.jl_reading.specs.Reading.{◌>>=◌}
use Rattle.jl_pool.specs.declared.entry.Entry.{Entry}
use Rattle.jl_pool.specs.Pool.{tag_of, long_of}
use Rattle.jl_optable.specs.declared.form.Operands.{Operands}
use Rattle.jl_optable.specs.declared.form.Operands.TheVariants as kinds
use Rattle.jl_optable.specs.declared.form.Form.{Form}
use Rattle.jl_optable.specs.Rows.{is_within, form_of}
use Rattle.jl_code.specs.declared.fault.CodeFault.{CodeFault}
use Rattle.jl_code.specs.declared.fault.CodeFault.TheVariants as faults
use Rattle.jl_code.specs.declared.code.Arg.{Arg}
use Rattle.jl_code.specs.declared.code.Arg.TheVariants as args
use Rattle.jl_code.specs.declared.code.Instr.{Instr}
use Rattle.jl_code.specs.Operands.{operand_at, branch_at, inc_at, wide_inc_at, table_at, lookup_at}
use Rattle.jl_code.specs.References.{has_tag, member_type, is_right_index, is_slot_count, is_array_of}
use Rattle.jl_optable.specs.declared.ops.TheConstants as ops

-- of newarray the byte is the type of an array: 4 to 11
abbrev pub is_byte_for : ℕ → ℕ → Bool
is_byte_for op n = not (op == ops.NEWARRAY) || is_within 4 11 n

-- a signed byte
unfoldable pub byte_at : ℕ → ℕ → List ℕ → ℕ → Result (Arg × ℕ) CodeFault
byte_at at op code next = do
  n ← operand_at at 1 code next
  if is_byte_for op n.0 then Ok (args.Number (cast_signed w8 n.0), n.1) else Err (faults.BadIndex at)

-- a signed number of two bytes
unfoldable pub short_at : ℕ → List ℕ → ℕ → Result (Arg × ℕ) CodeFault
short_at at code next = do
  n ← operand_at at 2 code next
  Ok (args.Number (cast_signed w16 n.0), n.1)

-- a local in k bytes
unfoldable pub local_at : ℕ → ℕ → List ℕ → ℕ → Result (Arg × ℕ) CodeFault
local_at at k code next = do
  local ← operand_at at k code next
  Ok (args.Local local.0, local.1)

-- the constant of ldc2_w, where it is a long
abbrev pub long_or_index : ℕ → Option ℤ → Arg
long_or_index i (Some value) = args.Long value
long_or_index i None = args.Index i

-- what an index means as an operand: the long of ldc2_w, or itself
abbrev pub index_arg : List Entry → ℕ → ℕ → Arg
index_arg pool op i = if op == ops.LDC2_W then long_or_index i (long_of pool i) else args.Index i

-- an index that the instruction takes, as its operand
abbrev pub named : List Entry → ℕ → ℕ → ℕ → ℕ → Result (Arg × ℕ) CodeFault
named pool at op i next = if is_right_index pool op i then Ok (index_arg pool op i, next) else Err (faults.BadIndex at)

-- an index in k bytes
unfoldable pub index_at : List Entry → ℕ → ℕ → ℕ → List ℕ → ℕ → Result (Arg × ℕ) CodeFault
index_at pool at op k code next = do
  i ← operand_at at k code next
  named pool at op i.0 i.1

-- An interface's method, with the count of its slots and a zero.
abbrev pub is_interface : List Entry → ℕ → ℕ → ℕ → ℕ → Bool
is_interface pool op i count nothing = is_right_index pool op i && (is_slot_count count (member_type pool i) && (nothing == 0))

-- an index, the count of the slots, and a zero
unfoldable pub interface_at : List Entry → ℕ → ℕ → List ℕ → ℕ → Result (Arg × ℕ) CodeFault
interface_at pool at op code next = do
  i ← operand_at at 2 code next
  count ← operand_at at 1 code i.1
  nothing ← operand_at at 1 code count.1
  if is_interface pool op i.0 count.0 nothing.0 then Ok (args.Index i.0, nothing.1) else Err (faults.BadIndex at)

-- an index, and two bytes
unfoldable pub dynamic_at : List Entry → ℕ → List ℕ → ℕ → Result (Arg × ℕ) CodeFault
dynamic_at pool at code next = do
  i ← operand_at at 2 code next
  nothing ← operand_at at 2 code i.1
  if has_tag 18 (tag_of pool i.0) then Ok (args.Index i.0, nothing.1) else Err (faults.BadIndex at)

-- an index, and the count of dimensions
unfoldable pub multi_at : List Entry → ℕ → List ℕ → ℕ → Result (Arg × ℕ) CodeFault
multi_at pool at code next = do
  i ← operand_at at 2 code next
  count ← operand_at at 1 code i.1
  if is_array_of pool i.0 count.0 then Ok (args.Multi i.0 count.0, count.1) else Err (faults.BadIndex at)

-- What a row's operands are. Those of wide are part of the instruction that it widens.
unfoldable pub arg_at : List Entry → ℕ → ℕ → Operands → List ℕ → ℕ → Result (Arg × ℕ) CodeFault
arg_at pool at op kinds.Nothing code next = Ok (args.Nothing, next)
arg_at pool at op kinds.Byte code next = byte_at at op code next
arg_at pool at op kinds.Short code next = short_at at code next
arg_at pool at op kinds.Local code next = local_at at 1 code next
arg_at pool at op kinds.Index1 code next = index_at pool at op 1 code next
arg_at pool at op kinds.Index2 code next = index_at pool at op 2 code next
arg_at pool at op kinds.Inc code next = inc_at at code next
arg_at pool at op kinds.Target2 code next = branch_at at 2 w16 code next
arg_at pool at op kinds.Target4 code next = branch_at at 4 w32 code next
arg_at pool at op kinds.Table code next = table_at at code next
arg_at pool at op kinds.Lookup code next = lookup_at at code next
arg_at pool at op kinds.Interface code next = interface_at pool at op code next
arg_at pool at op kinds.Dynamic code next = dynamic_at pool at code next
arg_at pool at op kinds.Multi code next = multi_at pool at code next
arg_at pool at op kinds.Wide code next = Ok (args.Nothing, next)

-- loads and stores of a local, which wide gives two bytes
abbrev pub names_local : ℕ → Bool
names_local op = is_within ops.ILOAD ops.ALOAD op || is_within ops.ISTORE ops.ASTORE op

-- the operands of a widened instruction
unfoldable pub wide_arg_at : ℕ → ℕ → List ℕ → ℕ → Result (Arg × ℕ) CodeFault
wide_arg_at at op code next =
    if op == ops.IINC then wide_inc_at at code next
    else if names_local op then local_at at 2 code next
    else Err (faults.UnknownOp at)

-- Behind wide comes the opcode that it widens. The instruction has that opcode, and the place of wide.
unfoldable pub wide_at : ℕ → List ℕ → ℕ → Result (Instr × ℕ) CodeFault
wide_at at code next = do
  op ← operand_at at 1 code next
  arg ← wide_arg_at at op.0 code op.1
  Ok (record { at = at; op = op.0; wide = true; arg = arg.0 }, arg.1)

-- an instruction that is not widened, behind its opcode
unfoldable pub plain_at : List Entry → ℕ → ℕ → Operands → List ℕ → ℕ → Result (Instr × ℕ) CodeFault
plain_at pool at op operands code next = do
  arg ← arg_at pool at op operands code next
  Ok (record { at = at; op = op; wide = false; arg = arg.0 }, arg.1)

-- an instruction behind its opcode, by its row
abbrev pub form_at : List Entry → ℕ → Option Form → List ℕ → ℕ → Result (Instr × ℕ) CodeFault
form_at pool at None code next = Err (faults.UnknownOp at)
form_at pool at (Some form) code next = if form.op == ops.WIDE then wide_at at code next else plain_at pool at form.op form.operands code next

-- the instruction at a place, and the place after it
unfoldable pub instr_at : List Entry → List ℕ → ℕ → Result (Instr × ℕ) CodeFault
instr_at pool code at = do
  op ← operand_at at 1 code at
  form_at pool at (form_of op.0) code op.1

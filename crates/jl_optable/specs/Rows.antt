-- The rows of the table of instructions (JVMS 6.5), by groups of opcodes.
use Rattle.std.specs.Prelude.{ℕ, zero, suc, ◌+◌, ◌<◌, ⊤, List, [], ◌∷◌, Option, None, Some, Bool, not, ◌&&◌, ◌||◌, ◌==◌, nat_le, if◌then◌else◌}
use Rattle.std.specs.List.{AllByRecursion}
use Rattle.jl_optable.specs.declared.form.Operands.{Operands}
use Rattle.jl_optable.specs.declared.form.Operands.TheVariants as kinds
use Rattle.jl_optable.specs.declared.form.Form.{Form}
use Rattle.jl_optable.specs.declared.ops.TheConstants as ops

-- the opcode is one of these, the first and the last included
abbrev pub is_within : ℕ → ℕ → ℕ → Bool
is_within from to op = nat_le from op && nat_le op to

-- What computes with a float or a double: their constants, loads, stores, arithmetic, conversions, comparisons and returns. invokedynamic too.
unfoldable pub is_stub : ℕ → Bool
is_stub op =
    is_within ops.FCONST_0 ops.DCONST_1 op
    || (is_within ops.FLOAD ops.DLOAD op || (is_within ops.FLOAD_0 ops.DLOAD_3 op || (is_within ops.FALOAD ops.DALOAD op
    || (is_within ops.FSTORE ops.DSTORE op || (is_within ops.FSTORE_0 ops.DSTORE_3 op || (is_within ops.FASTORE ops.DASTORE op
    || (is_within ops.FADD ops.DADD op || (is_within ops.FSUB ops.DSUB op || (is_within ops.FMUL ops.DMUL op || (is_within ops.FDIV ops.DDIV op
    || (is_within ops.FREM ops.DREM op || (is_within ops.FNEG ops.DNEG op
    || (is_within ops.I2F ops.I2D op || (is_within ops.L2F ops.D2F op || (is_within ops.FCMPL ops.DCMPG op
    || (is_within ops.FRETURN ops.DRETURN op || (op == ops.INVOKEDYNAMIC)))))))))))))))))

-- what follows an opcode in the code
unfoldable pub operands_of : ℕ → Operands
operands_of op =
    if (op == ops.BIPUSH) || (op == ops.NEWARRAY) then kinds.Byte
    else if op == ops.SIPUSH then kinds.Short
    else if is_within ops.ILOAD ops.ALOAD op || is_within ops.ISTORE ops.ASTORE op then kinds.Local
    else if op == ops.LDC then kinds.Index1
    else if is_within ops.LDC_W ops.LDC2_W op || (is_within ops.GETSTATIC ops.INVOKESTATIC op || ((op == ops.NEW) || ((op == ops.ANEWARRAY) || is_within ops.CHECKCAST ops.INSTANCEOF op))) then kinds.Index2
    else if op == ops.IINC then kinds.Inc
    else if is_within ops.IFEQ ops.GOTO op || is_within ops.IFNULL ops.IFNONNULL op then kinds.Target2
    else if op == ops.GOTO_W then kinds.Target4
    else if op == ops.TABLESWITCH then kinds.Table
    else if op == ops.LOOKUPSWITCH then kinds.Lookup
    else if op == ops.INVOKEINTERFACE then kinds.Interface
    else if op == ops.INVOKEDYNAMIC then kinds.Dynamic
    else if op == ops.MULTIANEWARRAY then kinds.Multi
    else if op == ops.WIDE then kinds.Wide
    else kinds.Nothing

-- the opcodes of instructions: 0 to 200 without jsr and ret, 168 and 169, which no class file of these versions has (JVMS 4.9.1)
unfoldable pub has_row : ℕ → Bool
has_row op = nat_le op ops.GOTO_W && not (is_within 168 169 op)

-- what the row of an opcode says, where it has one
abbrev pub row_of : ℕ → Form
row_of op = record { op = op; stub = is_stub op; operands = operands_of op }

-- the row of an opcode
unfoldable pub form_of : ℕ → Option Form
form_of op = if has_row op then Some (row_of op) else None

-- the rows of n opcodes from one on
unfoldable pub rows_from : ℕ → ℕ → List Form
rows_from zero op = []
rows_from (suc n) op = if has_row op then row_of op ∷ rows_from n (op + 1) else rows_from n (op + 1)

-- all rows, in the order of their opcodes
unfoldable pub table : List Form
table = rows_from 256 0

-- each opcode is lower than all after it
abbrev pub Rise : List Form → Type 0
Rise [] = ⊤
Rise (row ∷ rows) = AllByRecursion (λ (later : Form). row.op < later.op) rows × Rise rows

-- the opcode of a row
abbrev pub opcode : Form → ℕ
opcode row = row.op

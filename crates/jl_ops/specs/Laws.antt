-- Which opcodes have a row here (JVMS 6.5): all but those that make a stub and those that ask for classes.
use Rattle.std.specs.Prelude.{ℕ, zero, suc, pos, [], Bool, true, false, not, ◌&&◌, ◌||◌, ◌==◌, if◌then◌else◌}
use Rattle.std.specs.Bool.{beq}
use Rattle.jl_optable.specs.declared.form.Operands.{Operands}
use Rattle.jl_optable.specs.declared.form.Operands.TheVariants as operands
use Rattle.jl_optable.specs.declared.ops.TheConstants as ops
use Rattle.jl_optable.specs.Rows.{is_within, is_stub, has_row, operands_of}
use Rattle.jl_code.specs.declared.code.Arg.{Arg}
use Rattle.jl_code.specs.declared.code.Arg.TheVariants as args
use Rattle.jl_code.specs.declared.code.Instr.{Instr}
use Rattle.jl_ops.specs.Decoding.{is_plain}

-- an operand of the form that an opcode asks for; 4 is a type of newarray
abbrev pub some_arg : ℕ → Operands → Arg
some_arg op operands.Nothing = args.Nothing
some_arg op operands.Byte = args.Number (pos 4)
some_arg op operands.Short = args.Number (pos 4)
some_arg op operands.Local = args.Local 0
some_arg op operands.Index2 = if op == ops.LDC2_W then args.Long (pos 0) else args.Index 1
some_arg op operands.Inc = args.Inc 0 (pos 1)
some_arg op operands.Target2 = args.Target 0
some_arg op operands.Target4 = args.Target 0
some_arg op operands.Table = args.Switch 0 []
some_arg op operands.Lookup = args.Switch 0 []
some_arg op operands = args.Index 1

-- an instruction of an opcode
abbrev pub some_instr : ℕ → Instr
some_instr op = record { at = 0; op = op; wide = false; arg = some_arg op (operands_of op) }

-- What asks for classes: ldc whatever it loads, aastore, fields, calls, new objects, arrays of references, and casts. And wide, which is part of the instruction that it widens.
abbrev pub asks_for_classes : ℕ → Bool
asks_for_classes op =
    is_within ops.LDC ops.LDC_W op || (op == ops.AASTORE) || is_within ops.GETSTATIC ops.INVOKEINTERFACE op || (op == ops.NEW)
    || (op == ops.ANEWARRAY) || is_within ops.CHECKCAST ops.INSTANCEOF op || is_within ops.WIDE ops.MULTIANEWARRAY op

-- an opcode is executed here exactly where it has a row that makes no stub and asks for no class
abbrev pub is_shared_out : ℕ → Bool
is_shared_out op = beq (is_plain (some_instr op)) (has_row op && not (is_stub op) && not (asks_for_classes op))

-- newarray of a type
abbrev pub new_array : ℕ → Instr
new_array t = record { at = 0; op = ops.NEWARRAY; wide = false; arg = args.Number (pos t) }

-- Of the types 4 to 11 (JVMS 6.5, newarray) those of float and double, 6 and 7, make a stub.
abbrev pub is_type_shared_out : ℕ → Bool
is_type_shared_out t = beq (is_plain (new_array t)) (is_within 4 11 t && not (is_within 6 7 t))

-- a test holds of each number below n
abbrev pub holds_below : (ℕ → Bool) → ℕ → Bool
holds_below test zero = true
holds_below test (suc n) = test n && holds_below test n

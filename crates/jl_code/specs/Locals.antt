-- The local that an instruction loads, stores or counts up (JVMS 6.5).
use Rattle.std.specs.Prelude.{ℕ, ◌-◌, ◌%◌, Option, None, Some, if◌then◌else◌}
use Rattle.jl_optable.specs.declared.ops.TheConstants as ops
use Rattle.jl_optable.specs.Rows.{is_within}
use Rattle.jl_code.specs.declared.code.Arg.{Arg}
use Rattle.jl_code.specs.declared.code.Arg.TheVariants as args

-- The opcode names the local itself: four opcodes for each type, in the order of the types.
abbrev pub hidden_local : ℕ → Option ℕ
hidden_local op =
    if is_within ops.ILOAD_0 ops.ALOAD_3 op then Some ((op - ops.ILOAD_0) % 4)
    else if is_within ops.ISTORE_0 ops.ASTORE_3 op then Some ((op - ops.ISTORE_0) % 4)
    else None

-- an operand names the local, or the opcode does
abbrev pub local_of : ℕ → Arg → Option ℕ
local_of op (args.Local n) = Some n
local_of op (args.Inc n more) = Some n
local_of op args.Nothing = hidden_local op
local_of op _ = None

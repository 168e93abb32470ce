-- The place behind an instruction (JVMS 4.7.3, 6.5).
use Rattle.std.specs.Prelude.{ℕ, ◌+◌, min, Option, None, Some, ◌==◌, if◌then◌else◌}
use Rattle.jl_optable.specs.declared.form.Form.{Form}
use Rattle.jl_optable.specs.declared.ops.TheConstants as ops
use Rattle.jl_optable.specs.Rows.{form_of}
use Rattle.jl_code.specs.declared.code.Instr.{Instr}
use Rattle.jl_code.specs.Places.{size_of}

-- how many bytes the operands of a row take
abbrev pub operands_size : Option Form → ℕ
operands_size None = 0
operands_size (Some form) = size_of form.operands

-- how many bytes an instruction takes: a widened one has wide, its opcode, and two bytes for each operand
abbrev pub instr_size : Instr → ℕ
instr_size i = if i.wide then (if i.op == ops.IINC then 6 else 4) else 1 + operands_size (form_of i.op)

-- The place behind an instruction that is no switch. It stands still at the last place that a number of 32 bits has; no code is so long.
abbrev pub next_place : Instr → ℕ
next_place i = min (i.at + instr_size i) 4294967295

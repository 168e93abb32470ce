-- Which instructions (JVMS 6.5) make a method a stub: those that compute with F or D, and those of computed constants and calls.
use Rattle.std.specs.Prelude.{ℕ, List, [], ◌∷◌, Option, None, Some, Bool, false, ◌&&◌, ◌||◌, ◌==◌, if◌then◌else◌, ℤ, pos, negsuc}
use Rattle.std.specs.List.{list_any}
use Rattle.jl_pool.specs.declared.entry.Entry.{Entry}
use Rattle.jl_pool.specs.Pool.{tag_of}
use Rattle.jl_optable.specs.declared.form.Form.{Form}
use Rattle.jl_optable.specs.Rows.{form_of, is_within}
use Rattle.jl_code.specs.declared.code.Arg.{Arg}
use Rattle.jl_code.specs.declared.code.Arg.TheVariants as args
use Rattle.jl_code.specs.declared.code.Instr.{Instr}
use Rattle.jl_code.specs.References.{has_tag, member_type, is_float_field, has_float}
use Rattle.jl_optable.specs.declared.ops.TheConstants as ops

-- Float, Double, MethodHandle, MethodType, Dynamic
abbrev pub is_stub_constant : Option ℕ → Bool
is_stub_constant tag = list_any (λ t. has_tag t tag) (4 ∷ 6 ∷ 15 ∷ 16 ∷ 17 ∷ [])

-- what an instruction names is a constant, a field or a method with which a stub is made
abbrev pub names_stub : List Entry → ℕ → ℕ → Bool
names_stub pool op i =
    if is_within ops.LDC ops.LDC2_W op then is_stub_constant (tag_of pool i)
    else if is_within ops.GETSTATIC ops.PUTFIELD op then is_float_field (member_type pool i)
    else is_within ops.INVOKEVIRTUAL ops.INVOKEINTERFACE op && has_float (member_type pool i)

-- arrays of float and double
abbrev pub is_float_array : ℤ → Bool
is_float_array (pos n) = is_within 6 7 n
is_float_array (negsuc n) = false

-- an operand makes a stub: an array of floats, or what is named
abbrev pub arg_makes_stub : List Entry → ℕ → Arg → Bool
arg_makes_stub pool op (args.Number n) = (op == ops.NEWARRAY) && is_float_array n
arg_makes_stub pool op (args.Index i) = names_stub pool op i
arg_makes_stub pool op _ = false

-- a row that makes a stub, whatever the operands are
abbrev pub row_makes_stub : Option Form → Bool
row_makes_stub None = false
row_makes_stub (Some form) = form.stub

-- an instruction makes a stub by its row, or by what it names
unfoldable pub makes_stub : List Entry → Instr → Bool
makes_stub pool i = row_makes_stub (form_of i.op) || arg_makes_stub pool i.op i.arg

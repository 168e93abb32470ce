-- Where instructions stand, by opcodes and lengths alone (JVMS 4.9.1, 6.5).
use Rattle.std.specs.Prelude.{ℕ, zero, suc, ◌+◌, ◌*◌, ◌^◌, nat_lt, nat_le, List, [], ◌∷◌, length, slice_index_or, Option, None, Some, Result, Ok, Err, Bool, false, ◌==◌, if◌then◌else◌, int_lt}
use Rattle.std.specs.List.{list_any}
use Rattle.std.specs.Int.{cast_signed, w32}
use Rattle.jl_reading.specs.Reading.{◌>>=◌}
use Rattle.jl_optable.specs.declared.form.Operands.{Operands}
use Rattle.jl_optable.specs.declared.form.Operands.TheVariants as kinds
use Rattle.jl_optable.specs.declared.form.Form.{Form}
use Rattle.jl_optable.specs.Rows.{form_of}
use Rattle.jl_code.specs.declared.fault.CodeFault.{CodeFault}
use Rattle.jl_code.specs.declared.fault.CodeFault.TheVariants as faults
use Rattle.jl_code.specs.Operands.{operand_at, padded, keys_between}
use Rattle.jl_code.specs.Instructions.{names_local}
use Rattle.jl_optable.specs.declared.ops.TheConstants as ops

-- the place behind operands that are whole
abbrev pub whole_to : ℕ → List ℕ → ℕ → Result ℕ CodeFault
whole_to at code end = if nat_lt (length code) end then Err (faults.ShortOperand at) else Ok end

-- behind the padding and the default offset: the lowest and the highest key, and four bytes for each
unfoldable pub table_end : ℕ → List ℕ → ℕ → Result ℕ CodeFault
table_end at code next = do
  low ← operand_at at 4 code (padded next + 4)
  high ← operand_at at 4 code low.1
  if int_lt (cast_signed w32 high.0) (cast_signed w32 low.0) then Err (faults.BadTarget at) else whole_to at code (high.1 + 4 * keys_between (cast_signed w32 low.0) (cast_signed w32 high.0))

-- likewise the count of the pairs, and eight bytes for each
unfoldable pub lookup_end : ℕ → List ℕ → ℕ → Result ℕ CodeFault
lookup_end at code next = do
  count ← operand_at at 4 code (padded next + 4)
  if nat_le (2 ^ 31) count.0 then Err (faults.BadTarget at) else whole_to at code (count.1 + 8 * count.0)

-- the opcode that is widened, and its operands
unfoldable pub wide_end : ℕ → List ℕ → ℕ → Result ℕ CodeFault
wide_end at code next = do
  op ← operand_at at 1 code next
  if op.0 == ops.IINC then whole_to at code (op.1 + 4)
      else if names_local op.0 then whole_to at code (op.1 + 2)
      else Err (faults.UnknownOp at)

-- how many bytes operands take that always take as many
abbrev pub size_of : Operands → ℕ
size_of kinds.Byte = 1
size_of kinds.Short = 2
size_of kinds.Local = 1
size_of kinds.Index1 = 1
size_of kinds.Index2 = 2
size_of kinds.Inc = 2
size_of kinds.Target2 = 2
size_of kinds.Target4 = 4
size_of kinds.Interface = 4
size_of kinds.Dynamic = 4
size_of kinds.Multi = 3
size_of _ = 0

-- the place behind operands of a kind
unfoldable pub end_at : ℕ → List ℕ → Operands → ℕ → Result ℕ CodeFault
end_at at code kinds.Table next = table_end at code next
end_at at code kinds.Lookup next = lookup_end at code next
end_at at code kinds.Wide next = wide_end at code next
end_at at code operands next = whole_to at code (next + size_of operands)

-- the place behind the operands of a row
abbrev pub form_end : ℕ → List ℕ → Option Form → ℕ → Result ℕ CodeFault
form_end at code None next = Err (faults.UnknownOp at)
form_end at code (Some form) next = end_at at code form.operands next

-- the place behind the instruction at a place, or why it has none
unfoldable pub next_place : List ℕ → ℕ → Result ℕ CodeFault
next_place code at = do
  op ← operand_at at 1 code at
  form_end at code (form_of op.0) op.1

-- the places of at most n instructions, up to the end or the first that has no place behind it
unfoldable pub places_from : List ℕ → ℕ → ℕ → List ℕ
places_from code zero at = []
places_from code (suc n) at = if nat_lt at (length code) then elim (next_place code at) [ Ok next ↦ at ∷ places_from code n next | Err f ↦ [] ] else []

-- where instructions stand
abbrev pub places : List ℕ → List ℕ
places code = places_from code (length code) 0

-- an instruction stands at a place
abbrev pub stands : List ℕ → ℕ → Bool
stands starts place = list_any (λ start. start == place) starts

-- marks of places, with none past their end
abbrev pub is_marked : List Bool → ℕ → Bool
is_marked marks place = slice_index_or marks place false

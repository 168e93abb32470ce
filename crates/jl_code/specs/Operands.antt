-- The operands behind an opcode (JVMS 6.5). Every fault names the place of the instruction, which is the first argument.
use Rattle.std.specs.Prelude.{ℕ, ◌+◌, ◌-◌, ◌*◌, ◌/◌, ◌^◌, nat_lt, nat_le, List, [], length, slice_get, Option, None, Some, Result, Ok, Err, Bool, true, if◌then◌else◌, ℤ, pos, negsuc, ◌+ℤ◌, ◌-ℤ◌, int_lt, unsigned_abs}
use Rattle.std.specs.Int.{Width, cast_signed, w8, w16, w32}
use Rattle.jl_reading.specs.Reading.{◌>>=◌, number_at, each_at}
use Rattle.jl_code.specs.declared.fault.CodeFault.{CodeFault}
use Rattle.jl_code.specs.declared.fault.CodeFault.TheVariants as faults
use Rattle.jl_code.specs.declared.code.Arg.{Arg}
use Rattle.jl_code.specs.declared.code.Arg.TheVariants as args

-- a number in k bytes
abbrev pub operand_at : ℕ → ℕ → List ℕ → ℕ → Result (ℕ × ℕ) CodeFault
operand_at at k code next = number_at (λ _. faults.ShortOperand at) k code next

-- a place inside the code
abbrev pub place_or : CodeFault → List ℕ → ℤ → Result ℕ CodeFault
place_or fault code (pos place) = if nat_lt place (length code) then Ok place else Err fault
place_or fault code (negsuc n) = Err fault

-- Where a branch leads. Its offset is counted from the instruction.
abbrev pub target : ℕ → List ℕ → ℤ → Result ℕ CodeFault
target at code offset = place_or (faults.BadTarget at) code (pos at +ℤ offset)

-- an offset of a branch in k bytes, and where it leads
unfoldable pub branch_at : ℕ → ℕ → Width → List ℕ → ℕ → Result (Arg × ℕ) CodeFault
branch_at at k w code next = do
  offset ← operand_at at k code next
  place ← target at code (cast_signed w offset.0)
  Ok (args.Target place, offset.1)

-- what iinc adds to a local: the local's number and a signed number, of one byte each, or of two where they are wide
unfoldable pub inc_at : ℕ → List ℕ → ℕ → Result (Arg × ℕ) CodeFault
inc_at at code next = do
  local ← operand_at at 1 code next
  n ← operand_at at 1 code local.1
  Ok (args.Inc local.0 (cast_signed w8 n.0), n.1)

-- the same, widened
unfoldable pub wide_inc_at : ℕ → List ℕ → ℕ → Result (Arg × ℕ) CodeFault
wide_inc_at at code next = do
  local ← operand_at at 2 code next
  n ← operand_at at 2 code local.1
  Ok (args.Inc local.0 (cast_signed w16 n.0), n.1)

-- ---- switches

-- the first place from one on that is divisible by 4, counted from the start of the code
abbrev pub padded : ℕ → ℕ
padded next = (next + 3) / 4 * 4

-- a key's offset, and where it leads
unfoldable pub case_at : ℕ → List ℕ → ℤ → ℕ → Result ((ℤ × ℕ) × ℕ) CodeFault
case_at at code key next = do
  offset ← operand_at at 4 code next
  place ← target at code (cast_signed w32 offset.0)
  Ok ((key, place), offset.1)

-- A case of a tableswitch has an offset alone. Its key is as many above the lowest as there are cases before it.
abbrev pub table_case : ℕ → List ℕ → ℤ → List (ℤ × ℕ) → ℕ → Result ((ℤ × ℕ) × ℕ) CodeFault
table_case at code low cases next = case_at at code (low +ℤ pos (length cases)) next

-- how many keys there are from the lowest to the highest
abbrev pub keys_between : ℤ → ℤ → ℕ
keys_between low high = unsigned_abs (high -ℤ low) + 1

-- The default offset, the lowest and the highest key, and an offset for each of them. The table is whole before it is judged.
unfoldable pub table_at : ℕ → List ℕ → ℕ → Result (Arg × ℕ) CodeFault
table_at at code next = do
  other ← operand_at at 4 code (padded next)
  low ← operand_at at 4 code other.1
  high ← operand_at at 4 code low.1
  if int_lt (cast_signed w32 high.0) (cast_signed w32 low.0) then Err (faults.BadTarget at)
      else if nat_lt (length code) (high.1 + 4 * keys_between (cast_signed w32 low.0) (cast_signed w32 high.0)) then Err (faults.ShortOperand at)
      else (do
        place ← target at code (cast_signed w32 other.0)
        cases ← each_at (table_case at code (cast_signed w32 low.0)) [] (keys_between (cast_signed w32 low.0) (cast_signed w32 high.0)) high.1
        Ok (args.Switch place cases.0, cases.1))

-- the key is above that of the last case
abbrev pub is_above : ℤ → Option (ℤ × ℕ) → Bool
is_above key None = true
is_above key (Some case) = int_lt case.0 key

-- A case of a lookupswitch is a key and its offset.
unfoldable pub lookup_case : ℕ → List ℕ → List (ℤ × ℕ) → ℕ → Result ((ℤ × ℕ) × ℕ) CodeFault
lookup_case at code cases next = do
  key ← operand_at at 4 code next
  case ← case_at at code (cast_signed w32 key.0) key.1
  if is_above (cast_signed w32 key.0) (slice_get cases (length cases - 1)) then Ok case else Err (faults.BadTarget at)

-- The default offset, the count of pairs, which is not negative, and the pairs, whose keys rise.
unfoldable pub lookup_at : ℕ → List ℕ → ℕ → Result (Arg × ℕ) CodeFault
lookup_at at code next = do
  other ← operand_at at 4 code (padded next)
  count ← operand_at at 4 code other.1
  if nat_le (2 ^ 31) count.0 then Err (faults.BadTarget at)
      else if nat_lt (length code) (count.1 + 8 * count.0) then Err (faults.ShortOperand at)
      else (do
        place ← target at code (cast_signed w32 other.0)
        cases ← each_at (lookup_case at code) [] count.0 count.1
        Ok (args.Switch place cases.0, cases.1))

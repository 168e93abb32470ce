-- How instructions spell (JVMS 6.5), and the code of a method as the instructions that stand in it (JVMS 4.9.1).
use Rattle.std.specs.Prelude.{◌≡◌, ℕ, ◌+◌, ◌^◌, ◌<◌, List, [], ◌∷◌, length, map, Option, None, Some, Bool, true, false, not, ◌&&◌, ◌==◌, IsTrue, ℤ, pos, ◌+ℤ◌, int_lt, ◌⊎◌}
use Rattle.std.specs.Int.{Width, cast_signed, w8, w16, w32}
use Rattle.std.specs.List.{list_all}
use Rattle.byteorder.specs.Endian.{big_bytes}
use Rattle.jl_reading.specs.Reading.{Stands}
use Rattle.jl_prim.specs.declared.declaration.Handler.{Handler}
use Rattle.jl_pool.specs.declared.entry.Entry.{Entry}
use Rattle.jl_pool.specs.Pool.{tag_of}
use Rattle.jl_optable.specs.declared.form.Operands.{Operands}
use Rattle.jl_optable.specs.declared.form.Operands.TheVariants as kinds
use Rattle.jl_optable.specs.Rows.{has_row, operands_of}
use Rattle.jl_code.specs.declared.code.Arg.{Arg}
use Rattle.jl_code.specs.declared.code.Arg.TheVariants as args
use Rattle.jl_code.specs.declared.code.Instr.{Instr}
use Rattle.jl_code.specs.declared.code.Code.{Code}
use Rattle.jl_code.specs.Operands.{padded, keys_between, is_above}
use Rattle.jl_code.specs.References.{has_tag, is_right_index, is_array_of}
use Rattle.jl_code.specs.Instructions.{is_byte_for, index_arg, is_interface, names_local}
use Rattle.jl_code.specs.Places.{stands}
use Rattle.jl_code.specs.Decoding.{leads_right, is_right_handler, kind_of}
use Rattle.jl_optable.specs.declared.ops.TheConstants as ops

-- a number stands in k bytes
pub record StandsNumber (code : List ℕ) (k at n next : ℕ) : Type 0 where
  pub fits : n < 256 ^ k
  pub stands : Stands code at (big_bytes k n) next

-- ---- operands

-- one number, by which the operand is right and made
pub record IsOne (code : List ℕ) (k : ℕ) (right : ℕ → Bool) (made : ℕ → Arg) (next : ℕ) (arg : Arg) (end : ℕ) : Type 0 where
  pub n : ℕ
  pub number : StandsNumber code k next n end
  pub rule : IsTrue (right n)
  pub meaning : arg ≡ made n

-- two numbers
pub record IsTwo (code : List ℕ) (k j : ℕ) (right : ℕ → ℕ → Bool) (made : ℕ → ℕ → Arg) (next : ℕ) (arg : Arg) (end : ℕ) : Type 0 where
  pub n : ℕ
  pub m : ℕ
  pub first : StandsNumber code k next n (next + k)
  pub second : StandsNumber code j (next + k) m end
  pub rule : IsTrue (right n m)
  pub meaning : arg ≡ made n m

-- an index, a count and a zero, of which invokeinterface makes its operand
pub record IsInterface (pool : List Entry) (code : List ℕ) (op next : ℕ) (arg : Arg) (end : ℕ) : Type 0 where
  pub index : ℕ
  pub count : ℕ
  pub nothing : ℕ
  pub first : StandsNumber code 2 next index (next + 2)
  pub second : StandsNumber code 1 (next + 2) count (next + 2 + 1)
  pub third : StandsNumber code 1 (next + 2 + 1) nothing end
  pub rule : IsTrue (is_interface pool op index count nothing)
  pub meaning : arg ≡ args.Index index

-- An offset of k bytes that leads to a place inside the code. It is counted from the instruction.
pub record LeadsTo (code : List ℕ) (at k : ℕ) (w : Width) (next place end : ℕ) : Type 0 where
  pub offset : ℕ
  pub number : StandsNumber code k next offset end
  pub counted : pos at +ℤ cast_signed w offset ≡ pos place
  pub inside : place < length code

-- an offset whose place is the operand
pub record IsBranch (code : List ℕ) (at k : ℕ) (w : Width) (next : ℕ) (arg : Arg) (end : ℕ) : Type 0 where
  pub place : ℕ
  pub leads : LeadsTo code at k w next place end
  pub meaning : arg ≡ args.Target place

-- The cases of a tableswitch from the one whose key is so many above the lowest. Each has an offset alone.
abbrev pub TableCases : List ℕ → ℕ → ℤ → ℕ → ℕ → List (ℤ × ℕ) → ℕ → Type 0
TableCases code at low i next [] end = next ≡ end
TableCases code at low i next (case ∷ cases) end = (case.0 ≡ low +ℤ pos i) × LeadsTo code at 4 w32 next case.1 (next + 4) × TableCases code at low (i + 1) (next + 4) cases end

-- Behind the padding, which is anything: the default offset, the lowest and the highest key, and a case for each key.
pub record IsTable (code : List ℕ) (at next : ℕ) (arg : Arg) (end : ℕ) : Type 0 where
  pub other : ℕ
  pub low : ℕ
  pub high : ℕ
  pub cases : List (ℤ × ℕ)
  pub default : LeadsTo code at 4 w32 (padded next) other (padded next + 4)
  pub lowest : StandsNumber code 4 (padded next + 4) low (padded next + 4 + 4)
  pub highest : StandsNumber code 4 (padded next + 4 + 4) high (padded next + 4 + 4 + 4)
  pub rises : int_lt (cast_signed w32 high) (cast_signed w32 low) ≡ false
  pub each : length cases ≡ keys_between (cast_signed w32 low) (cast_signed w32 high)
  pub stand : TableCases code at (cast_signed w32 low) 0 (padded next + 4 + 4 + 4) cases end
  pub meaning : arg ≡ args.Switch other cases

-- the cases of a lookupswitch behind one, each a key above that of the one before, and an offset
abbrev pub LookupCases : List ℕ → ℕ → Option (ℤ × ℕ) → ℕ → List (ℤ × ℕ) → ℕ → Type 0
LookupCases code at last next [] end = next ≡ end
LookupCases code at last next (case ∷ cases) end =
    (key : ℕ) × StandsNumber code 4 next key (next + 4) × (case.0 ≡ cast_signed w32 key) × LeadsTo code at 4 w32 (next + 4) case.1 (next + 4 + 4) × IsTrue (is_above case.0 last)
    × LookupCases code at (Some case) (next + 4 + 4) cases end

-- behind the padding: the default offset, the count of the cases, and the cases
pub record IsLookup (code : List ℕ) (at next : ℕ) (arg : Arg) (end : ℕ) : Type 0 where
  pub other : ℕ
  pub cases : List (ℤ × ℕ)
  pub default : LeadsTo code at 4 w32 (padded next) other (padded next + 4)
  pub count : StandsNumber code 4 (padded next + 4) (length cases) (padded next + 4 + 4)
  pub few : length cases < 2 ^ 31
  pub stand : LookupCases code at None (padded next + 4 + 4) cases end
  pub meaning : arg ≡ args.Switch other cases

-- the operands of a row stand from a place up to another
abbrev pub ArgStands : List Entry → List ℕ → ℕ → ℕ → Operands → ℕ → Arg → ℕ → Type 0
ArgStands pool code at op kinds.Nothing next arg end = (arg ≡ args.Nothing) × (end ≡ next)
ArgStands pool code at op kinds.Byte next arg end = IsOne code 1 (is_byte_for op) (λ n. args.Number (cast_signed w8 n)) next arg end
ArgStands pool code at op kinds.Short next arg end = IsOne code 2 (λ n. true) (λ n. args.Number (cast_signed w16 n)) next arg end
ArgStands pool code at op kinds.Local next arg end = IsOne code 1 (λ n. true) args.Local next arg end
ArgStands pool code at op kinds.Index1 next arg end = IsOne code 1 (is_right_index pool op) (index_arg pool op) next arg end
ArgStands pool code at op kinds.Index2 next arg end = IsOne code 2 (is_right_index pool op) (index_arg pool op) next arg end
ArgStands pool code at op kinds.Inc next arg end = IsTwo code 1 1 (λ n m. true) (λ n m. args.Inc n (cast_signed w8 m)) next arg end
ArgStands pool code at op kinds.Target2 next arg end = IsBranch code at 2 w16 next arg end
ArgStands pool code at op kinds.Target4 next arg end = IsBranch code at 4 w32 next arg end
ArgStands pool code at op kinds.Table next arg end = IsTable code at next arg end
ArgStands pool code at op kinds.Lookup next arg end = IsLookup code at next arg end
ArgStands pool code at op kinds.Interface next arg end = IsInterface pool code op next arg end
ArgStands pool code at op kinds.Dynamic next arg end = IsTwo code 2 2 (λ i nothing. has_tag 18 (tag_of pool i)) (λ i nothing. args.Index i) next arg end
ArgStands pool code at op kinds.Multi next arg end = IsTwo code 2 1 (is_array_of pool) args.Multi next arg end
ArgStands pool code at op kinds.Wide next arg end = (arg ≡ args.Nothing) × (end ≡ next)

-- ---- instructions

-- an opcode, and the operands of its row
pub record IsPlain (pool : List Entry) (code : List ℕ) (at : ℕ) (i : Instr) (end : ℕ) : Type 0 where
  pub place : i.at ≡ at
  pub plain : i.wide ≡ false
  pub row : IsTrue (has_row i.op)
  pub narrow : (i.op == ops.WIDE) ≡ false
  pub opcode : StandsNumber code 1 at i.op (at + 1)
  pub operands : ArgStands pool code at i.op (operands_of i.op) (at + 1) i.arg end

-- iinc with a local and a number of two bytes, or a load or store with a local of two bytes
abbrev pub WideArgStands : List ℕ → ℕ → ℕ → Arg → ℕ → Type 0
WideArgStands code op next arg end =
    (IsTrue (op == ops.IINC) × IsTwo code 2 2 (λ n m. true) (λ n m. args.Inc n (cast_signed w16 m)) next arg end)
    ⊎ (IsTrue (not (op == ops.IINC) && names_local op) × IsOne code 2 (λ n. true) args.Local next arg end)

-- wide, the opcode that it widens, and the widened operands
pub record IsWide (code : List ℕ) (at : ℕ) (i : Instr) (end : ℕ) : Type 0 where
  pub place : i.at ≡ at
  pub widened : i.wide ≡ true
  pub prefix : StandsNumber code 1 at ops.WIDE (at + 1)
  pub opcode : StandsNumber code 1 (at + 1) i.op (at + 1 + 1)
  pub operands : WideArgStands code i.op (at + 1 + 1) i.arg end

-- an instruction stands at a place, up to another
abbrev pub InstrStands : List Entry → List ℕ → ℕ → Instr → ℕ → Type 0
InstrStands pool code at i end = IsPlain pool code at i end ⊎ IsWide code at i end

-- instructions stand in the code one behind the other
abbrev pub StandInstrs : List Entry → List ℕ → ℕ → List Instr → ℕ → Type 0
StandInstrs pool code at [] end = at ≡ end
StandInstrs pool code at (i ∷ is) end = (next : ℕ) × InstrStands pool code at i next × StandInstrs pool code next is end

-- ---- the code of a method

-- The code is one or more instructions, of which each branch leads to one, and the handlers are right. What it is follows from these.
pub record IsCode (pool : List Entry) (desc code : List ℕ) (handlers : List Handler) (c : Code) : Type 0 where
  pub instrs : List Instr
  pub stand : StandInstrs pool code 0 instrs (length code)
  pub some : 0 < length instrs
  pub lead : IsTrue (list_all (λ i. leads_right (stands (map (λ i. i.at) instrs)) i.arg) instrs)
  pub handled : IsTrue (list_all (is_right_handler pool code (stands (map (λ i. i.at) instrs))) handlers)
  pub kind : c ≡ kind_of pool desc instrs

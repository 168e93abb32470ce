-- What is computed of ints and longs (JLS 4.2.2, 15.17 to 15.22; JVMS 6.5). Ints have 32 bits and longs 64, and both wrap.
use Rattle.std.specs.Prelude.{◌/◌, ◌%◌, ◌^◌, ℤ, pos, neg_ℤ, Option, None, Some, Bool, not, int_lt, int_le, int_rem, if◌then◌else◌}
use Rattle.std.specs.Ordering.{int_eq}
use Rattle.std.specs.Int.{w8, w16, w32, w64, cast_signed, cast_unsigned, int_wrapping_add, int_wrapping_sub, int_wrapping_mul, int_wrapping_div, int_bit_and, int_bit_or, int_bit_xor, int_shl, int_shr}
use Rattle.jl_ops.specs.declared.row.IntOp.{IntOp}
use Rattle.jl_ops.specs.declared.row.IntOp.TheVariants as int_ops
use Rattle.jl_ops.specs.declared.row.LongOp.{LongOp}
use Rattle.jl_ops.specs.declared.row.LongOp.TheVariants as long_ops
use Rattle.jl_ops.specs.declared.row.Shift.{Shift}
use Rattle.jl_ops.specs.declared.row.Shift.TheVariants as shifts
use Rattle.jl_ops.specs.declared.row.IntType.{IntType}
use Rattle.jl_ops.specs.declared.row.IntType.TheVariants as int_types
use Rattle.jl_ops.specs.declared.row.Condition.{Condition}
use Rattle.jl_ops.specs.declared.row.Condition.TheVariants as conditions

-- an int that is shifted by the low five bits of another
abbrev pub shifted_int : Shift → ℤ → ℤ → ℤ
shifted_int shifts.Left a b = int_shl w32 a (cast_unsigned w32 b % 32)
shifted_int shifts.Right a b = int_shr a (cast_unsigned w32 b % 32)
shifted_int shifts.UnsignedRight a b = cast_signed w32 (cast_unsigned w32 a / 2 ^ (cast_unsigned w32 b % 32))

-- a long that is shifted by the low six bits of an int
abbrev pub shifted_long : Shift → ℤ → ℤ → ℤ
shifted_long shifts.Left a b = int_shl w64 a (cast_unsigned w32 b % 64)
shifted_long shifts.Right a b = int_shr a (cast_unsigned w32 b % 64)
shifted_long shifts.UnsignedRight a b = cast_signed w64 (cast_unsigned w64 a / 2 ^ (cast_unsigned w32 b % 64))

-- a value that is none where the divisor is zero
abbrev pub unless_zero : ℤ → ℤ → Option ℤ
unless_zero divisor value = if int_eq divisor (pos 0) then None else Some value

-- What is computed of two ints: nothing of a division by zero. The least int divided by -1 is itself.
abbrev pub int_result : IntOp → ℤ → ℤ → Option ℤ
int_result int_ops.Add a b = Some (int_wrapping_add w32 a b)
int_result int_ops.Sub a b = Some (int_wrapping_sub w32 a b)
int_result int_ops.Mul a b = Some (int_wrapping_mul w32 a b)
int_result int_ops.Div a b = unless_zero b (int_wrapping_div w32 a b)
int_result int_ops.Rem a b = unless_zero b (int_rem a b)
int_result int_ops.And a b = Some (int_bit_and w32 a b)
int_result int_ops.Or a b = Some (int_bit_or w32 a b)
int_result int_ops.Xor a b = Some (int_bit_xor w32 a b)
int_result (int_ops.Shift shift) a b = Some (shifted_int shift a b)

-- what is computed of two longs, likewise
abbrev pub long_result : LongOp → ℤ → ℤ → Option ℤ
long_result long_ops.Add a b = Some (int_wrapping_add w64 a b)
long_result long_ops.Sub a b = Some (int_wrapping_sub w64 a b)
long_result long_ops.Mul a b = Some (int_wrapping_mul w64 a b)
long_result long_ops.Div a b = unless_zero b (int_wrapping_div w64 a b)
long_result long_ops.Rem a b = unless_zero b (int_rem a b)
long_result long_ops.And a b = Some (int_bit_and w64 a b)
long_result long_ops.Or a b = Some (int_bit_or w64 a b)
long_result long_ops.Xor a b = Some (int_bit_xor w64 a b)

-- the low 32 bits of a long, as an int
abbrev pub low_int : ℤ → ℤ
low_int n = cast_signed w32 (cast_unsigned w64 n % 2 ^ 32)

-- an int cut to a type: its low bits, of which the highest is the sign but for char
abbrev pub cut : IntType → ℤ → ℤ
cut int_types.Int n = n
cut int_types.Byte n = cast_signed w8 (cast_unsigned w32 n % 2 ^ 8)
cut int_types.Char n = pos (cast_unsigned w32 n % 2 ^ 16)
cut int_types.Short n = cast_signed w16 (cast_unsigned w32 n % 2 ^ 16)

-- the low bit of an int
abbrev pub low_bit : ℤ → ℤ
low_bit n = pos (cast_unsigned w32 n % 2)

-- how two longs compare: -1, 0 or 1
abbrev pub compared : ℤ → ℤ → ℤ
compared a b = if int_lt a b then neg_ℤ (pos 1) else if int_eq a b then pos 0 else pos 1

-- two ints compare so
abbrev pub holds : Condition → ℤ → ℤ → Bool
holds conditions.Equal a b = int_eq a b
holds conditions.NotEqual a b = not (int_eq a b)
holds conditions.Less a b = int_lt a b
holds conditions.GreaterOrEqual a b = int_le b a
holds conditions.Greater a b = int_lt b a
holds conditions.LessOrEqual a b = int_le a b

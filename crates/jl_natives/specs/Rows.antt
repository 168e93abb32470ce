-- What methods of String, Integer, Long and Math answer, or throw (the API texts of these classes of java.lang), over UTF-16 units and integers.
use Rattle.std.specs.Prelude.{ℕ, ◌+◌, ◌^◌, List, [], ◌∷◌, ◌++◌, length, drop, slice_index, slice_range, Bool, not, ◌&&◌, ◌||◌, ◌==◌, nat_eq, nat_lt, nat_le, Option, None, Some, Result, Ok, Err, ℤ, pos, neg_ℤ, ◌+ℤ◌, ◌-ℤ◌, ◌*ℤ◌, int_lt, int_le, int_rem, unsigned_abs, codes, ◌%◌, if◌then◌else◌}
use Rattle.std.specs.List.{starts_with}
use Rattle.std.specs.Int.{w32, cast_unsigned, is_negative, int_wrap, int_min, int_max}
use Rattle.std.specs.Str.{all_ascii_digits}
use Rattle.std.specs.Str.Parse.{digits_value}
use Rattle.std.specs.Fmt.{decimal, signed_decimal}
use Rattle.jl_prim.specs.declared.error_kind.ErrorKind.{ErrorKind}
use Rattle.jl_prim.specs.declared.error_kind.ErrorKind.TheVariants.{ArithmeticException, NullPointerException, NumberFormatException, StringIndexOutOfBoundsException}
use Rattle.jl_natives.specs.declared.plain.Plain.{Plain}
use Rattle.jl_natives.specs.declared.plain.Plain.TheVariants.{Int, Long, Text}
use Rattle.jl_natives.specs.declared.native.NativeEnd.{NativeEnd}
use Rattle.jl_natives.specs.declared.native.NativeEnd.TheVariants.{Throws}

-- ---- answers

abbrev pub an_int_is : ℤ → Result Plain NativeEnd
an_int_is n = Ok (Int n)

abbrev pub a_text_is : List ℕ → Result Plain NativeEnd
a_text_is units = Ok (Text units)

-- a boolean, as 1 or 0
abbrev pub a_boolean_is : Bool → Result Plain NativeEnd
a_boolean_is b = Ok (Int (if b then pos 1 else pos 0))

abbrev pub is_thrown : ErrorKind → List ℕ → Result Plain NativeEnd
is_thrown kind message = Err (Throws kind (Some message))

-- without a message
abbrev pub is_thrown_alone : ErrorKind → Result Plain NativeEnd
is_thrown_alone kind = Err (Throws kind None)

-- what is answered of a String, where null throws NullPointerException
abbrev pub unless_null : Option (List ℕ) → (List ℕ → Result Plain NativeEnd) → Result Plain NativeEnd
unless_null None answer = is_thrown_alone NullPointerException
unless_null (Some units) answer = answer units

-- the int that a whole number comes to, by wrapping (JLS 4.2.2): how long a text is, where a unit stands, how far lengths differ
abbrev pub wrapped : ℤ → ℤ
wrapped n = int_wrap w32 n

-- ---- String

abbrev pub string_length : List ℕ → Result Plain NativeEnd
string_length text = an_int_is (wrapped (pos (length text)))

abbrev pub index_message : ℤ → ℕ → List ℕ
index_message at n = codes "Index " ++ signed_decimal at ++ codes " out of bounds for length " ++ decimal n

abbrev pub string_char_at : List ℕ → ℤ → Result Plain NativeEnd
string_char_at text at =
    if int_le (pos 0) at && int_lt at (pos (length text))
    then an_int_is (pos (slice_index text (unsigned_abs at)))
    else is_thrown StringIndexOutOfBoundsException (index_message at (length text))

abbrev pub string_concat : List ℕ → Option (List ℕ) → Result Plain NativeEnd
string_concat text other = unless_null other (λ units. a_text_is (text ++ units))

abbrev pub range_message : ℤ → ℤ → ℕ → List ℕ
range_message from to n = codes "begin " ++ signed_decimal from ++ codes ", end " ++ signed_decimal to ++ codes ", length " ++ decimal n

-- the places are in order, and none is past the end
abbrev pub is_range : ℤ → ℤ → ℕ → Bool
is_range from to n = int_le (pos 0) from && int_le from to && int_le to (pos n)

-- the units from a place to before another
abbrev pub string_substring : List ℕ → ℤ → ℤ → Result Plain NativeEnd
string_substring text from to =
    if is_range from to (length text)
    then a_text_is (slice_range text (unsigned_abs from) (unsigned_abs to))
    else is_thrown StringIndexOutOfBoundsException (range_message from to (length text))

-- the first place from which on the part stands, where the units begin at the given place
abbrev pub place_from : ℕ → List ℕ → List ℕ → Option ℕ
place_from at part [] = if starts_with nat_eq [] part then Some at else None
place_from at part (u ∷ us) = if starts_with nat_eq (u ∷ us) part then Some at else place_from (at + 1) part us

-- the place, or -1
abbrev pub place_or_none : Option ℕ → ℤ
place_or_none (Some at) = wrapped (pos at)
place_or_none None = neg_ℤ (pos 1)

abbrev pub string_index_of : List ℕ → Option (List ℕ) → Result Plain NativeEnd
string_index_of text part = unless_null part (λ units. an_int_is (place_or_none (place_from 0 units text)))

-- the difference of the first units that differ, or the other number where none do
abbrev pub difference : List ℕ → List ℕ → ℤ → ℤ
difference [] ys other = other
difference (x ∷ xs) [] other = other
difference (x ∷ xs) (y ∷ ys) other = if x == y then difference xs ys other else pos x -ℤ pos y

abbrev pub string_compare_to : List ℕ → Option (List ℕ) → Result Plain NativeEnd
string_compare_to text other = unless_null other (λ units. an_int_is (difference text units (wrapped (pos (length text) -ℤ pos (length units)))))

-- the hash of what stood before, and of the units
abbrev pub hash_from : ℤ → List ℕ → ℤ
hash_from h [] = h
hash_from h (u ∷ us) = hash_from (int_wrap w32 (pos 31 *ℤ h +ℤ pos u)) us

abbrev pub string_hash_code : List ℕ → Result Plain NativeEnd
string_hash_code text = an_int_is (hash_from (pos 0) text)

abbrev pub string_is_empty : List ℕ → Result Plain NativeEnd
string_is_empty text = a_boolean_is (length text == 0)

abbrev pub string_starts_with : List ℕ → Option (List ℕ) → Result Plain NativeEnd
string_starts_with text part = unless_null part (λ units. a_boolean_is (starts_with nat_eq text units))

-- the unit, of an int that is too long its last 16 bits
abbrev pub value_of_char : ℤ → Result Plain NativeEnd
value_of_char unit = a_text_is (cast_unsigned w32 unit % 65536 ∷ [])

-- true where the last bit is 1
abbrev pub value_of_boolean : ℤ → Result Plain NativeEnd
value_of_boolean b = a_text_is (if cast_unsigned w32 b % 2 == 1 then codes "true" else codes "false")

-- ---- Integer and Long

-- in decimal, a minus before what is negative
abbrev pub number_text : ℤ → Result Plain NativeEnd
number_text n = a_text_is (signed_decimal n)

-- one ASCII digit or more, and nothing else
abbrev pub is_number : List ℕ → Bool
is_number digits = nat_lt 0 (length digits) && all_ascii_digits digits

abbrev pub below_zero : ℕ → List ℕ → Option ℤ
below_zero most digits = if is_number digits && nat_le (digits_value 10 digits) most then Some (neg_ℤ (pos (digits_value 10 digits))) else None

abbrev pub from_zero : ℕ → List ℕ → Option ℤ
from_zero most digits = if is_number digits && nat_lt (digits_value 10 digits) most then Some (pos (digits_value 10 digits)) else None

-- The number that a text writes, from -most to most - 1: a plus, a minus or neither, and digits.
abbrev pub number_in : ℕ → List ℕ → Option ℤ
number_in most text =
    if slice_index text 0 == 45 then below_zero most (drop 1 text)
    else if slice_index text 0 == 43 then from_zero most (drop 1 text)
    else from_zero most text

-- what is answered of a number, or NumberFormatException with the text
abbrev pub number_or : (ℤ → Plain) → List ℕ → Option ℤ → Result Plain NativeEnd
number_or plain text (Some n) = Ok (plain n)
number_or plain text None = is_thrown NumberFormatException text

-- the number of a String; null throws NumberFormatException too
abbrev pub parsed : ℕ → (ℤ → Plain) → Option (List ℕ) → Result Plain NativeEnd
parsed most plain None = is_thrown NumberFormatException (codes "null")
parsed most plain (Some text) = number_or plain text (number_in most text)

abbrev pub integer_parse_int : Option (List ℕ) → Result Plain NativeEnd
integer_parse_int text = parsed (2 ^ 31) Int text

abbrev pub long_parse_long : Option (List ℕ) → Result Plain NativeEnd
long_parse_long text = parsed (2 ^ 63) Long text

-- ---- Math

-- the value without its sign; that of the least int wraps
abbrev pub math_abs : ℤ → Result Plain NativeEnd
math_abs n = an_int_is (int_wrap w32 (pos (unsigned_abs n)))

abbrev pub math_max : ℤ → ℤ → Result Plain NativeEnd
math_max x y = an_int_is (int_max x y)

abbrev pub math_min : ℤ → ℤ → Result Plain NativeEnd
math_min x y = an_int_is (int_min x y)

abbrev pub have_one_sign : ℤ → ℤ → Bool
have_one_sign x y = if is_negative x then is_negative y else not (is_negative y)

-- what is left of x with the sign of y, where r is what is left with the sign of x (JLS 15.17.3)
abbrev pub with_sign_of : ℤ → ℤ → ℤ
with_sign_of y r = if (unsigned_abs r == 0) || have_one_sign r y then r else r +ℤ y

abbrev pub math_floor_mod : ℤ → ℤ → Result Plain NativeEnd
math_floor_mod x y = if unsigned_abs y == 0 then is_thrown ArithmeticException (codes "/ by zero") else an_int_is (with_sign_of y (int_rem x y))

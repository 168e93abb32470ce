-- The rows of the natives at their edges.
use Rattle.std.proofs.Common.{◌≡◌, ℕ, List, [], ◌∷◌, None, Some, Ok, Err, true, false, codes, refl, pos, negsuc}
use Rattle.std.specs.Int.{int_wrap}
use Rattle.std.specs.Fmt.{digits}
use Rattle.jl_prim.specs.declared.error_kind.ErrorKind.TheVariants.{ArithmeticException, NullPointerException, NumberFormatException, StringIndexOutOfBoundsException}
use Rattle.jl_natives.specs.declared.plain.Plain.{Plain}
use Rattle.jl_natives.specs.declared.plain.Plain.TheVariants.{Int, Long, Text, Null}
use Rattle.jl_natives.specs.declared.native.NativeEnd.TheVariants.{Throws, Failed}
use Rattle.jl_natives.specs.Table.{native_of, kinds_of, takes, gives, row_of, is_outside}
use Rattle.jl_natives.specs.Boxes.{View, place_of, answers_after, faults_after}

-- ---- String

abbrev text : List ℕ → Plain
text units = Text units

length_of_none : row_of 1 (text [] ∷ []) ≡ Some (Ok (Int (pos 0)))
unfolding row_of native_of int_wrap
length_of_none = refl

length_of_three : row_of 1 (text (codes "abc") ∷ []) ≡ Some (Ok (Int (pos 3)))
unfolding row_of native_of int_wrap
length_of_three = refl

first_unit : row_of 2 (text (codes "abc") ∷ Int (pos 0) ∷ []) ≡ Some (Ok (Int (pos 97)))
unfolding row_of native_of
first_unit = refl

last_unit : row_of 2 (text (codes "abc") ∷ Int (pos 2) ∷ []) ≡ Some (Ok (Int (pos 99)))
unfolding row_of native_of
last_unit = refl

unit_past_the_end : row_of 2 (text (codes "abc") ∷ Int (pos 3) ∷ []) ≡ Some (Err (Throws StringIndexOutOfBoundsException (Some (codes "Index 3 out of bounds for length 3"))))
unfolding row_of native_of digits
unit_past_the_end = refl

unit_before_the_first : row_of 2 (text [] ∷ Int (negsuc 2147483647) ∷ []) ≡ Some (Err (Throws StringIndexOutOfBoundsException (Some (codes "Index -2147483648 out of bounds for length 0"))))
unfolding row_of native_of digits
unit_before_the_first = refl

both : row_of 3 (text (codes "ab") ∷ text (codes "c") ∷ []) ≡ Some (Ok (Text (codes "abc")))
unfolding row_of native_of
both = refl

concat_of_null : row_of 3 (text (codes "ab") ∷ Null ∷ []) ≡ Some (Err (Throws NullPointerException None))
unfolding row_of native_of
concat_of_null = refl

middle : row_of 4 (text (codes "abcd") ∷ Int (pos 1) ∷ Int (pos 3) ∷ []) ≡ Some (Ok (Text (codes "bc")))
unfolding row_of native_of
middle = refl

nothing_at_the_end : row_of 4 (text (codes "abcd") ∷ Int (pos 4) ∷ Int (pos 4) ∷ []) ≡ Some (Ok (Text []))
unfolding row_of native_of
nothing_at_the_end = refl

bounds_that_cross : row_of 4 (text (codes "abcd") ∷ Int (pos 3) ∷ Int (pos 2) ∷ []) ≡ Some (Err (Throws StringIndexOutOfBoundsException (Some (codes "begin 3, end 2, length 4"))))
unfolding row_of native_of digits
bounds_that_cross = refl

negative_bound : row_of 4 (text (codes "abcd") ∷ Int (negsuc 0) ∷ Int (pos 2) ∷ []) ≡ Some (Err (Throws StringIndexOutOfBoundsException (Some (codes "begin -1, end 2, length 4"))))
unfolding row_of native_of digits
negative_bound = refl

bound_past_the_end : row_of 4 (text (codes "abcd") ∷ Int (pos 0) ∷ Int (pos 5) ∷ []) ≡ Some (Err (Throws StringIndexOutOfBoundsException (Some (codes "begin 0, end 5, length 4"))))
unfolding row_of native_of digits
bound_past_the_end = refl

first_place : row_of 5 (text (codes "ababc") ∷ text (codes "abc") ∷ []) ≡ Some (Ok (Int (pos 2)))
unfolding row_of native_of int_wrap
first_place = refl

place_of_the_empty_text : row_of 5 (text [] ∷ text [] ∷ []) ≡ Some (Ok (Int (pos 0)))
unfolding row_of native_of int_wrap
place_of_the_empty_text = refl

no_place : row_of 5 (text (codes "ab") ∷ text (codes "abc") ∷ []) ≡ Some (Ok (Int (negsuc 0)))
unfolding row_of native_of int_wrap
no_place = refl

first_units_that_differ : row_of 6 (text (codes "abc") ∷ text (codes "az") ∷ []) ≡ Some (Ok (Int (negsuc 23)))
unfolding row_of native_of int_wrap
first_units_that_differ = refl

surrogates_compared : row_of 6 (text (55357 ∷ []) ∷ text (65535 ∷ []) ∷ []) ≡ Some (Ok (Int (negsuc 10177)))
unfolding row_of native_of int_wrap
surrogates_compared = refl

lengths_compared : row_of 6 (text (codes "abc") ∷ text (codes "a") ∷ []) ≡ Some (Ok (Int (pos 2)))
unfolding row_of native_of int_wrap
lengths_compared = refl

hash_of_none : row_of 7 (text [] ∷ []) ≡ Some (Ok (Int (pos 0)))
unfolding row_of native_of int_wrap
hash_of_none = refl

hash_of_hello : row_of 7 (text (codes "hello") ∷ []) ≡ Some (Ok (Int (pos 99162322)))
unfolding row_of native_of int_wrap
hash_of_hello = refl

hash_that_wraps : row_of 7 (text (codes "zzzzzz") ∷ []) ≡ Some (Ok (Int (negsuc 685785663)))
unfolding row_of native_of int_wrap
hash_that_wraps = refl

hash_of_a_pair : row_of 7 (text (55357 ∷ 56832 ∷ []) ∷ []) ≡ Some (Ok (Int (pos 1772899)))
unfolding row_of native_of int_wrap
hash_of_a_pair = refl

empty : row_of 8 (text [] ∷ []) ≡ Some (Ok (Int (pos 1)))
unfolding row_of native_of
empty = refl

begins_with_nothing : row_of 9 (text (codes "a") ∷ text [] ∷ []) ≡ Some (Ok (Int (pos 1)))
unfolding row_of native_of
begins_with_nothing = refl

begins_with_more : row_of 9 (text (codes "a") ∷ text (codes "ab") ∷ []) ≡ Some (Ok (Int (pos 0)))
unfolding row_of native_of
begins_with_more = refl

low_bits_of_a_char : row_of 14 (Int (negsuc 0) ∷ []) ≡ Some (Ok (Text (65535 ∷ [])))
unfolding row_of native_of
low_bits_of_a_char = refl

false_text : row_of 15 (Int (pos 0) ∷ []) ≡ Some (Ok (Text (codes "false")))
unfolding row_of native_of
false_text = refl

-- ---- Integer and Long

least_int_text : row_of 10 (Int (negsuc 2147483647) ∷ []) ≡ Some (Ok (Text (codes "-2147483648")))
unfolding row_of native_of digits
least_int_text = refl

zero_text : row_of 20 (Int (pos 0) ∷ []) ≡ Some (Ok (Text (codes "0")))
unfolding row_of native_of digits
zero_text = refl

greatest_long_text : row_of 12 (Long (pos 9223372036854775807) ∷ []) ≡ Some (Ok (Text (codes "9223372036854775807")))
unfolding row_of native_of digits
greatest_long_text = refl

greatest_int : row_of 11 (text (codes "2147483647") ∷ []) ≡ Some (Ok (Int (pos 2147483647)))
unfolding row_of native_of
greatest_int = refl

one_past_the_greatest : row_of 11 (text (codes "2147483648") ∷ []) ≡ Some (Err (Throws NumberFormatException (Some (codes "2147483648"))))
unfolding row_of native_of
one_past_the_greatest = refl

least_int : row_of 11 (text (codes "-2147483648") ∷ []) ≡ Some (Ok (Int (negsuc 2147483647)))
unfolding row_of native_of
least_int = refl

minus_zero : row_of 11 (text (codes "-0") ∷ []) ≡ Some (Ok (Int (pos 0)))
unfolding row_of native_of
minus_zero = refl

plus_five : row_of 11 (text (codes "+5") ∷ []) ≡ Some (Ok (Int (pos 5)))
unfolding row_of native_of
plus_five = refl

sign_alone : row_of 11 (text (codes "-") ∷ []) ≡ Some (Err (Throws NumberFormatException (Some (codes "-"))))
unfolding row_of native_of
sign_alone = refl

two_signs : row_of 11 (text (codes "+-5") ∷ []) ≡ Some (Err (Throws NumberFormatException (Some (codes "+-5"))))
unfolding row_of native_of
two_signs = refl

no_digits : row_of 11 (text [] ∷ []) ≡ Some (Err (Throws NumberFormatException (Some [])))
unfolding row_of native_of
no_digits = refl

digit_that_is_not_ascii : row_of 11 (text (1633 ∷ []) ∷ []) ≡ Some (Err (Throws NumberFormatException (Some (1633 ∷ []))))
unfolding row_of native_of
digit_that_is_not_ascii = refl

number_of_null : row_of 13 (Null ∷ []) ≡ Some (Err (Throws NumberFormatException (Some (codes "null"))))
unfolding row_of native_of
number_of_null = refl

nineteen_digits : row_of 13 (text (codes "-9223372036854775808") ∷ []) ≡ Some (Ok (Long (negsuc 9223372036854775807)))
unfolding row_of native_of
nineteen_digits = refl

twenty_digits : row_of 13 (text (codes "10000000000000000000") ∷ []) ≡ Some (Err (Throws NumberFormatException (Some (codes "10000000000000000000"))))
unfolding row_of native_of
twenty_digits = refl

-- ---- Math

abs_of_the_least : row_of 16 (Int (negsuc 2147483647) ∷ []) ≡ Some (Ok (Int (negsuc 2147483647)))
unfolding row_of native_of int_wrap
abs_of_the_least = refl

greater : row_of 17 (Int (negsuc 0) ∷ Int (pos 1) ∷ []) ≡ Some (Ok (Int (pos 1)))
unfolding row_of native_of
greater = refl

smaller : row_of 18 (Int (negsuc 0) ∷ Int (pos 1) ∷ []) ≡ Some (Ok (Int (negsuc 0)))
unfolding row_of native_of
smaller = refl

mod_of_a_negative : row_of 19 (Int (negsuc 6) ∷ Int (pos 3) ∷ []) ≡ Some (Ok (Int (pos 2)))
unfolding row_of native_of
mod_of_a_negative = refl

mod_by_a_negative : row_of 19 (Int (pos 7) ∷ Int (negsuc 2) ∷ []) ≡ Some (Ok (Int (negsuc 1)))
unfolding row_of native_of
mod_by_a_negative = refl

mod_of_the_least : row_of 19 (Int (negsuc 2147483647) ∷ Int (negsuc 0) ∷ []) ≡ Some (Ok (Int (pos 0)))
unfolding row_of native_of
mod_of_the_least = refl

mod_by_zero : row_of 19 (Int (pos 1) ∷ Int (pos 0) ∷ []) ≡ Some (Err (Throws ArithmeticException (Some (codes "/ by zero"))))
unfolding row_of native_of
mod_by_zero = refl

-- ---- the table

takes_no_null : takes 32 (Null ∷ []) ≡ false
unfolding takes kinds_of native_of
takes_no_null = refl

takes_null : takes 11 (Null ∷ []) ≡ true
unfolding takes kinds_of native_of
takes_null = refl

takes_too_few : takes 17 (Int (pos 1) ∷ []) ≡ false
unfolding takes kinds_of native_of
takes_too_few = refl

gives_null : gives 32 Null ≡ true
unfolding gives native_of
gives_null = refl

gives_no_int : gives 30 (Int (pos 1)) ≡ false
unfolding gives native_of
gives_no_int = refl

of_the_outside : is_outside 31 ≡ true
unfolding is_outside native_of
of_the_outside = refl

not_of_the_outside : is_outside 21 ≡ false
unfolding is_outside native_of
not_of_the_outside = refl

no_row : takes 22 [] ≡ false
unfolding takes kinds_of native_of
no_row = refl

not_decided : row_of 30 [] ≡ None
unfolding row_of native_of
not_decided = refl

-- ---- boxes

abbrev box : ℕ → View
box row = record { row = row; answers = None; faults = 0; counts_exactly = true }

first_of_two : place_of 5 (box 4 ∷ box 5 ∷ box 5 ∷ []) ≡ Some 1
first_of_two = refl

missing : place_of 6 (box 4 ∷ box 5 ∷ []) ≡ None
missing = refl

one_answer_more : answers_after 30 (Ok (Long (pos 2))) (Some (Long (pos 1) ∷ [])) ≡ Some (Long (pos 1) ∷ Long (pos 2) ∷ [])
unfolding is_outside native_of
one_answer_more = refl

last_fault : faults_after (Err Failed) 18446744073709551615 ≡ 18446744073709551615
last_fault = refl

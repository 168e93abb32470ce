-- Numbers in texts: what is read of units is what std reads of their characters.
use Rattle.std.proofs.Common.{◌≡◌, ℕ, ◌<◌, ◌≤◌, ◌^◌, nat_lt, nat_le, List, [], ◌∷◌, length, drop, map, slice_index, Bool, true, false, ◌&&◌, ◌==◌, cond, Some, None, Result, Ok, Err, ℤ, refl, ap, sym, ◌∙◌, arith}
use Rattle.std.specs.Result.{OkIff, result_ok}
use Rattle.std.specs.Str.{all_ascii_digits}
use Rattle.std.specs.Str.Parse.{digits_value, ParsesSigned}
use Rattle.std.specs.Char.{is_ascii_digit}
use Rattle.std.specs.Int.{Width}
use mir.Val.{hbits}
use Rattle.std.proofs.lemmas.Str.Parse.{IsNumeralModel, numerals_by_value, tells_all_ascii_digits, parse_signed_minus, parse_signed_plain, parse_signed_plus}
use Rattle.std.proofs.lemmas.Bool.Decides.{nat_tests}
use borrow.Author.Tests.{eqb-true, eqb-false}
use Rattle.jl_natives.specs.Ascii.{in_ascii}
use Rattle.jl_natives.specs.Rows.{below_zero, from_zero, number_in}

-- ---- characters of ASCII

digit_stays : (u : ℕ) → is_ascii_digit (in_ascii u) ≡ is_ascii_digit u
digit_stays u = grind arith

digits_stay : (ds : List ℕ) → all_ascii_digits (map in_ascii ds) ≡ all_ascii_digits ds
digits_stay [] = refl
digits_stay (d ∷ ds) = rw (digit_stays d, digits_stay ds) refl

digit_is_ascii : (u : ℕ) → is_ascii_digit u ≡ true → in_ascii u ≡ u
digit_is_ascii u is = grind arith

digits_are_ascii : (ds : List ℕ) → all_ascii_digits ds ≡ true → map in_ascii ds ≡ ds
digits_are_ascii [] is = refl
digits_are_ascii (d ∷ ds) is = grind (arith, digit_is_ascii d, digits_are_ascii ds)

and_false : (a b : Bool) → ((a && false) && b) ≡ false
and_false true b = refl
and_false false b = refl

no_digits : {A : Type 0} (ds : List ℕ) (b : Bool) (x : A) → all_ascii_digits ds ≡ false → cond ((nat_lt 0 (length ds) && all_ascii_digits ds) && b) (Some x) None ≡ None
no_digits ds b x is = rw (is, and_false (nat_lt 0 (length ds)) b) refl

below_stays : (most : ℕ) (ds : List ℕ) → below_zero most (map in_ascii ds) ≡ below_zero most ds
below_stays most ds = by_digits (all_ascii_digits ds) refl where
  by_digits : (b : Bool) → all_ascii_digits ds ≡ b → below_zero most (map in_ascii ds) ≡ below_zero most ds
  by_digits true is = rw (digits_are_ascii ds is) refl
  by_digits false is = no_digits (map in_ascii ds) _ _ (digits_stay ds ∙ is) ∙ sym (no_digits ds _ _ is)

from_stays : (most : ℕ) (ds : List ℕ) → from_zero most (map in_ascii ds) ≡ from_zero most ds
from_stays most ds = by_digits (all_ascii_digits ds) refl where
  by_digits : (b : Bool) → all_ascii_digits ds ≡ b → from_zero most (map in_ascii ds) ≡ from_zero most ds
  by_digits true is = rw (digits_are_ascii ds is) refl
  by_digits false is = no_digits (map in_ascii ds) _ _ (digits_stay ds ∙ is) ∙ sym (no_digits ds _ _ is)

sign_stays : (u : ℕ) → ((in_ascii u == 45) ≡ (u == 45)) × ((in_ascii u == 43) ≡ (u == 43))
sign_stays u = (grind arith, grind arith)

number_stays : (most : ℕ) (us : List ℕ) → number_in most (map in_ascii us) ≡ number_in most us
number_stays most [] = refl
number_stays most (u ∷ us) = rw ((sign_stays u).0, (sign_stays u).1, below_stays most us, from_stays most us, from_stays most (u ∷ us)) refl

-- ---- what std reads

own : IsNumeralModel (λ ds. all_ascii_digits ds ≡ true) (digits_value 10)
own = numerals_by_value (λ ds. all_ascii_digits ds ≡ true) tells_all_ascii_digits

by_test : {E : Type 0} (r : Result ℤ E) (P : Type 0) (b : Bool) (x : ℤ) → OkIff r P x → (b ≡ true → P) → (P → b ≡ true) → result_ok r ≡ cond b (Some x) None
by_test (Ok y) P true x h to from = ap Some h.1
by_test (Ok y) P false x h to from = cc (from h.0)
by_test (Err e) P true x h to from = absurd (h (to refl))
by_test (Err e) P false x h to from = refl

at_most : (n v m : ℕ) (d : Bool) → ((nat_lt 0 n && d) && nat_le v m) ≡ true → (d ≡ true) × (0 < n) × (v ≤ m)
at_most n v m d is = grind (arith, nat_tests)

is_at_most : (n v m : ℕ) (d : Bool) → (d ≡ true) × (0 < n) × (v ≤ m) → ((nat_lt 0 n && d) && nat_le v m) ≡ true
is_at_most n v m d is = grind (arith, nat_tests)

less : (n v m : ℕ) (d : Bool) → ((nat_lt 0 n && d) && nat_lt v m) ≡ true → (d ≡ true) × (0 < n) × (v < m)
less n v m d is = grind (arith, nat_tests)

is_less : (n v m : ℕ) (d : Bool) → (d ≡ true) × (0 < n) × (v < m) → ((nat_lt 0 n && d) && nat_lt v m) ≡ true
is_less n v m d is = grind (arith, nat_tests)

parsed_below : {E : Type 0} (w : Width) (bs : List ℕ) (r : Result ℤ E) → ParsesSigned w 10 bs r → slice_index bs 0 ≡ 45 → result_ok r ≡ below_zero (2 ^ hbits w) (drop 1 bs)
parsed_below w bs r h minus =
    let ds = drop 1 bs in
    by_test r _ _ _ (parse_signed_minus own w bs r h minus) (at_most (length ds) (digits_value 10 ds) (2 ^ hbits w) (all_ascii_digits ds)) (is_at_most (length ds) (digits_value 10 ds) (2 ^ hbits w) (all_ascii_digits ds))

parsed_plus : {E : Type 0} (w : Width) (bs : List ℕ) (r : Result ℤ E) → ParsesSigned w 10 bs r → slice_index bs 0 ≡ 43 → result_ok r ≡ from_zero (2 ^ hbits w) (drop 1 bs)
parsed_plus w bs r h plus =
    let ds = drop 1 bs in
    by_test r _ _ _ (parse_signed_plus own w bs r h plus) (less (length ds) (digits_value 10 ds) (2 ^ hbits w) (all_ascii_digits ds)) (is_less (length ds) (digits_value 10 ds) (2 ^ hbits w) (all_ascii_digits ds))

parsed_plain : {E : Type 0} (w : Width) (bs : List ℕ) (r : Result ℤ E) → ParsesSigned w 10 bs r → (slice_index bs 0 ≡ 43 → ⊥) → (slice_index bs 0 ≡ 45 → ⊥) → result_ok r ≡ from_zero (2 ^ hbits w) bs
parsed_plain w bs r h plus minus =
    by_test r _ _ _ (parse_signed_plain own w bs r h plus minus) (less (length bs) (digits_value 10 bs) (2 ^ hbits w) (all_ascii_digits bs)) (is_less (length bs) (digits_value 10 bs) (2 ^ hbits w) (all_ascii_digits bs))

parsed : {E : Type 0} (w : Width) (bs : List ℕ) (r : Result ℤ E) → ParsesSigned w 10 bs r → result_ok r ≡ number_in (2 ^ hbits w) bs
parsed w bs r h = by_sign (slice_index bs 0 == 45) (slice_index bs 0 == 43) refl refl where
  by_sign : (b c : Bool) → (slice_index bs 0 == 45) ≡ b → (slice_index bs 0 == 43) ≡ c → result_ok r ≡ number_in (2 ^ hbits w) bs
  by_sign true c minus plus = rw minus (parsed_below w bs r h (eqb-true _ _ minus))
  by_sign false true minus plus = rw (minus, plus) (parsed_plus w bs r h (eqb-true _ _ plus))
  by_sign false false minus plus = rw (minus, plus) (parsed_plain w bs r h (eqb-false _ _ plus) (eqb-false _ _ minus))

-- what a text gives is the number that it writes
pub parsed_is : {E : Type 0} (w : Width) (us bs : List ℕ) (r : Result ℤ E) → bs ≡ map in_ascii us → ParsesSigned w 10 bs r → result_ok r ≡ number_in (2 ^ hbits w) us
parsed_is w us bs r is h = parsed w bs r h ∙ (ap (number_in (2 ^ hbits w)) is ∙ number_stays (2 ^ hbits w) us)

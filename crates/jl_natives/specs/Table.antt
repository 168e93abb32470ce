-- The boxed natives by their numbers: String 1 to 9, 14, 15, 20 and 21, Integer 10 and 11, Long 12 and 13, Math 16 to 19, and of System
-- currentTimeMillis 30, nanoTime 31 and getProperty 32 (the API texts of these classes of java.lang).
use Rattle.std.specs.Prelude.{ℕ, List, [], ◌∷◌, Bool, false, not, ◌==◌, Option, None, Some, Result, is_some, option_map, if◌then◌else◌}
use Rattle.jl_natives.specs.declared.plain.Plain.{Plain}
use Rattle.jl_natives.specs.declared.native.NativeEnd.{NativeEnd}
use Rattle.jl_natives.specs.declared.kinds.PlainKind.{PlainKind}
use Rattle.jl_natives.specs.declared.kinds.PlainKind.TheVariants.{AnInt, ALong, AText, TextOrNull}
use Rattle.jl_natives.specs.Values.{has_kind, fit, int_at, long_at, text_at, units_at}
use Rattle.jl_natives.specs.Rows.{string_length, string_char_at, string_concat, string_substring, string_index_of, string_compare_to, string_hash_code, string_is_empty, string_starts_with, number_text, integer_parse_int, long_parse_long, value_of_char, value_of_boolean, math_abs, math_max, math_min, math_floor_mod}

-- A native: the kinds of its receiver, where it has one, and its arguments, the kind of its value, and where the arguments
-- alone decide it, what it answers.
pub record Native : Type 0 where
  pub takes : List PlainKind
  pub gives : PlainKind
  pub answer : Option (List Plain → Result Plain NativeEnd)

-- decided by the arguments
abbrev pub pure : List PlainKind → PlainKind → (List Plain → Result Plain NativeEnd) → Native
pure kinds kind answer = record { takes = kinds; gives = kind; answer = Some answer }

-- decided by the outside
abbrev pub outside : List PlainKind → PlainKind → Native
outside kinds kind = record { takes = kinds; gives = kind; answer = None }

abbrev pub natives : List (ℕ × Native)
natives =
    (1, pure (AText ∷ []) AnInt (λ args. string_length (units_at 0 args))) ∷
    (2, pure (AText ∷ AnInt ∷ []) AnInt (λ args. string_char_at (units_at 0 args) (int_at 1 args))) ∷
    (3, pure (AText ∷ TextOrNull ∷ []) AText (λ args. string_concat (units_at 0 args) (text_at 1 args))) ∷
    (4, pure (AText ∷ AnInt ∷ AnInt ∷ []) AText (λ args. string_substring (units_at 0 args) (int_at 1 args) (int_at 2 args))) ∷
    (5, pure (AText ∷ TextOrNull ∷ []) AnInt (λ args. string_index_of (units_at 0 args) (text_at 1 args))) ∷
    (6, pure (AText ∷ TextOrNull ∷ []) AnInt (λ args. string_compare_to (units_at 0 args) (text_at 1 args))) ∷
    (7, pure (AText ∷ []) AnInt (λ args. string_hash_code (units_at 0 args))) ∷
    (8, pure (AText ∷ []) AnInt (λ args. string_is_empty (units_at 0 args))) ∷
    (9, pure (AText ∷ TextOrNull ∷ []) AnInt (λ args. string_starts_with (units_at 0 args) (text_at 1 args))) ∷
    (10, pure (AnInt ∷ []) AText (λ args. number_text (int_at 0 args))) ∷
    (11, pure (TextOrNull ∷ []) AnInt (λ args. integer_parse_int (text_at 0 args))) ∷
    (12, pure (ALong ∷ []) AText (λ args. number_text (long_at 0 args))) ∷
    (13, pure (TextOrNull ∷ []) ALong (λ args. long_parse_long (text_at 0 args))) ∷
    (14, pure (AnInt ∷ []) AText (λ args. value_of_char (int_at 0 args))) ∷
    (15, pure (AnInt ∷ []) AText (λ args. value_of_boolean (int_at 0 args))) ∷
    (16, pure (AnInt ∷ []) AnInt (λ args. math_abs (int_at 0 args))) ∷
    (17, pure (AnInt ∷ AnInt ∷ []) AnInt (λ args. math_max (int_at 0 args) (int_at 1 args))) ∷
    (18, pure (AnInt ∷ AnInt ∷ []) AnInt (λ args. math_min (int_at 0 args) (int_at 1 args))) ∷
    (19, pure (AnInt ∷ AnInt ∷ []) AnInt (λ args. math_floor_mod (int_at 0 args) (int_at 1 args))) ∷
    (20, pure (AnInt ∷ []) AText (λ args. number_text (int_at 0 args))) ∷
    (21, pure (ALong ∷ []) AText (λ args. number_text (long_at 0 args))) ∷
    (30, outside [] ALong) ∷
    (31, outside [] ALong) ∷
    (32, outside (AText ∷ []) TextOrNull) ∷ []

-- the first with a number
abbrev pub first_with : ℕ → List (ℕ × Native) → Option Native
first_with row [] = None
first_with row (n ∷ ns) = if n.0 == row then Some n.1 else first_with row ns

unfoldable pub native_of : ℕ → Option Native
native_of row = first_with row natives

-- the kinds of what a native takes
unfoldable pub kinds_of : ℕ → Option (List PlainKind)
kinds_of row = option_map (λ n. n.takes) (native_of row)

-- the values are those that a native takes
unfoldable pub takes : ℕ → List Plain → Bool
takes row args = taken (kinds_of row) where
  taken : Option (List PlainKind) → Bool
  taken None = false
  taken (Some kinds) = fit kinds args

-- the value is of the kind that the native gives
unfoldable pub gives : ℕ → Plain → Bool
gives row v = given (native_of row) where
  given : Option Native → Bool
  given None = false
  given (Some n) = has_kind n.gives v

-- what a native whose arguments decide it answers of them
unfoldable pub row_of : ℕ → List Plain → Option (Result Plain NativeEnd)
row_of row args = answered (native_of row) where
  answered : Option Native → Option (Result Plain NativeEnd)
  answered None = None
  answered (Some n) = option_map (λ answer. answer args) n.answer

-- the outside decides it
unfoldable pub is_outside : ℕ → Bool
is_outside row = without_answer (native_of row) where
  without_answer : Option Native → Bool
  without_answer None = false
  without_answer (Some n) = not (is_some n.answer)

-- Units and their bytes (JVMS 4.4.7), and units as UTF-8.
use Rattle.std.specs.Prelude.{◌≡◌, ℕ, zero, suc, ◌+◌, ◌-◌, ◌*◌, ◌/◌, ◌%◌, ◌<◌, nat_lt, nat_le, ◌==◌, List, [], ◌∷◌, ◌++◌, length, slice_index, Bool, true, not, ◌&&◌, ◌||◌, Option, None, Some, Result, Ok, Err, encode_utf8, if◌then◌else◌}
use Rattle.std.specs.List.{flat_map, AllByRecursion}
use Rattle.jl_reading.specs.Reading.{◌>>=◌}
use Rattle.jl_names.specs.declared.fault.TextFault.{TextFault}
use Rattle.jl_names.specs.declared.fault.TextFault.TheVariants.{BadText, NoMemory}

-- what an error tells: the place of a bad text
abbrev pub told : TextFault → Option TextFault
told (BadText at) = Some (BadText at)
told NoMemory = None

-- ---- the grammar

-- A unit in one byte, in two, or in three. U+0000 takes two.
abbrev pub unit_bytes : ℕ → List ℕ
unit_bytes u =
    if nat_lt 0 u && nat_lt u 128 then u ∷ []
    else if nat_lt u 2048 then (192 + u / 64) ∷ (128 + u % 64) ∷ []
    else (224 + u / 4096) ∷ (128 + u / 64 % 64) ∷ (128 + u % 64) ∷ []

-- the bytes of a text
abbrev pub text_bytes : List ℕ → List ℕ
text_bytes units = flat_map unit_bytes units

-- each is a number of two bytes
abbrev pub AreUnits : List ℕ → Type 0
AreUnits = AllByRecursion (λ u. u < 65536)

-- the bytes are some text
abbrev pub IsText : List ℕ → Type 0
IsText bytes = (units : List ℕ) × AreUnits units × (text_bytes units ≡ bytes)

-- ---- reading

-- a byte that goes on with a unit
abbrev pub is_tail : ℕ → Bool
is_tail b = nat_le 128 b && nat_lt b 192

-- the second byte may follow the first: after 192 it is 128 alone, after 224 it is 160 or more
abbrev pub may_follow : ℕ → ℕ → Bool
may_follow first b = if first == 192 then b == 128 else if first == 224 then nat_le 160 b && nat_lt b 192 else is_tail b

-- the first byte of a unit in two bytes
abbrev pub begins_two : ℕ → Bool
begins_two b = (b == 192) || (nat_le 194 b && nat_lt b 224)

-- the first byte of a unit in three bytes
abbrev pub begins_three : ℕ → Bool
begins_three b = nat_le 224 b && nat_lt b 240

-- the unit at a place, and the place after it
unfoldable pub unit_at : List ℕ → ℕ → Result (ℕ × ℕ) TextFault
unit_at bytes at =
    let b = slice_index bytes at in
    let c = slice_index bytes (at + 1) in
    let d = slice_index bytes (at + 2) in
    if nat_lt 0 b && nat_lt b 128 then Ok (b, at + 1)
    else if not (begins_two b || begins_three b) then Err (BadText at)
    else if not (nat_lt (at + 1) (length bytes) && may_follow b c) then Err (BadText (at + 1))
    else if begins_two b then Ok ((b - 192) * 64 + (c - 128), at + 2)
    else if not (nat_lt (at + 2) (length bytes) && is_tail d) then Err (BadText (at + 2))
    else Ok ((b - 224) * 4096 + (c - 128) * 64 + (d - 128), at + 3)

-- the units from a place on, at most n of them
unfoldable pub units_from : ℕ → List ℕ → ℕ → Result (List ℕ) TextFault
units_from zero bytes at = Ok []
units_from (suc n) bytes at = if nat_lt at (length bytes) then (do
  u ← unit_at bytes at
  us ← units_from n bytes u.1
  Ok (u.0 ∷ us)) else Ok []

-- the units of a whole text, or its first bad place
unfoldable pub units_read : List ℕ → Result (List ℕ) TextFault
units_read bytes = units_from (length bytes) bytes 0

-- ---- plain text

-- the first unit of a pair of surrogates
abbrev pub is_high : ℕ → Bool
is_high u = nat_le 55296 u && nat_lt u 56320

-- the second unit of a pair of surrogates
abbrev pub is_low : ℕ → Bool
is_low u = nat_le 56320 u && nat_lt u 57344

-- a unit that makes no character by itself
abbrev pub is_surrogate : ℕ → Bool
is_surrogate u = is_high u || is_low u

-- a unit that stands alone, a surrogate as ?
abbrev pub plain_unit : ℕ → List ℕ
plain_unit u = if is_surrogate u then 63 ∷ [] else encode_utf8 u

-- the character of a pair of surrogates
abbrev pub paired : ℕ → ℕ → ℕ
paired high low = 65536 + (high - 55296) * 1024 + (low - 56320)

-- units as UTF-8, a pair of surrogates as one character
unfoldable pub plain : List ℕ → List ℕ
plain [] = []
plain (u ∷ []) = plain_unit u
plain (u ∷ v ∷ us) = if is_high u && is_low v then encode_utf8 (paired u v) ++ plain us else plain_unit u ++ plain (v ∷ us)

-- each surrogate stands in a pair, the high one first
unfoldable pub has_no_lone_surrogate : List ℕ → Bool
has_no_lone_surrogate [] = true
has_no_lone_surrogate (u ∷ []) = not (is_surrogate u)
has_no_lone_surrogate (u ∷ v ∷ us) = if is_high u && is_low v then has_no_lone_surrogate us else not (is_surrogate u) && has_no_lone_surrogate (v ∷ us)

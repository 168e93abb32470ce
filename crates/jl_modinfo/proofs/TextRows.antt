-- Definitions of numbers and texts, computed on small rows.
use Rattle.std.specs.Prelude.{◌≡◌, [], ◌∷◌, false, Ok, Err, codes, refl}
use Rattle.jl_reading.specs.Reading.{number_at}
use Rattle.jl_names.specs.declared.fault.TextFault.TheVariants.{BadText}
use Rattle.jl_names.specs.Text.{unit_bytes, unit_at, units_from, units_read, plain, has_no_lone_surrogate}

-- ---- numbers

two_bytes : number_at BadText 2 (9 ∷ 1 ∷ 2 ∷ []) 1 ≡ Ok (258, 3)
two_bytes = refl

short_bytes : number_at BadText 2 (9 ∷ 1 ∷ 2 ∷ []) 2 ≡ Err (BadText 2)
short_bytes = refl

-- ---- texts

zero_is_two_bytes : unit_bytes 0 ≡ 192 ∷ 128 ∷ []
zero_is_two_bytes = refl

zero_read : units_read (192 ∷ 128 ∷ []) ≡ Ok (0 ∷ [])
unfolding units_read units_from unit_at
zero_read = refl

plain_zero : units_read (0 ∷ []) ≡ Err (BadText 0)
unfolding units_read units_from unit_at
plain_zero = refl

surrogate_read : units_read (237 ∷ 160 ∷ 128 ∷ []) ≡ Ok (55296 ∷ [])
unfolding units_read units_from unit_at
surrogate_read = refl

overlong_two : units_read (193 ∷ 129 ∷ []) ≡ Err (BadText 0)
unfolding units_read units_from unit_at
overlong_two = refl

overlong_three : units_read (224 ∷ 128 ∷ 128 ∷ []) ≡ Err (BadText 1)
unfolding units_read units_from unit_at
overlong_three = refl

cut_text : units_read (195 ∷ []) ≡ Err (BadText 1)
unfolding units_read units_from unit_at
cut_text = refl

lone_surrogate : plain (55296 ∷ []) ≡ codes "?"
unfolding plain
lone_surrogate = refl

lone_surrogate_told : has_no_lone_surrogate (55296 ∷ 97 ∷ []) ≡ false
unfolding has_no_lone_surrogate
lone_surrogate_told = refl

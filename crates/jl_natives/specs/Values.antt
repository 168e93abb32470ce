-- Values that go to a native and come from it (JVMS 2.2): int, which also stands for char and boolean (JVMS 2.3.2, 2.3.4), long, String and null.
use Rattle.std.specs.Prelude.{ℕ, List, [], ◌∷◌, Bool, true, false, ◌&&◌, Option, None, Some, ℤ, pos, slice_get}
use Rattle.jl_natives.specs.declared.kinds.PlainKind.{PlainKind}
use Rattle.jl_natives.specs.declared.kinds.PlainKind.TheVariants.{AnInt, ALong, AText, TextOrNull}
use Rattle.jl_natives.specs.declared.plain.Plain.{Plain}
use Rattle.jl_natives.specs.declared.plain.Plain.TheVariants.{Int, Long, Text, Null}

-- ---- kinds

-- the value is of the kind; a String may be null where the kind says so
abbrev pub has_kind : PlainKind → Plain → Bool
has_kind AnInt (Int _) = true
has_kind ALong (Long _) = true
has_kind AText (Text _) = true
has_kind TextOrNull (Text _) = true
has_kind TextOrNull Null = true
has_kind _ _ = false

-- as many values as kinds, each of its kind
abbrev pub fit : List PlainKind → List Plain → Bool
fit [] [] = true
fit [] (v ∷ vs) = false
fit (kind ∷ kinds) [] = false
fit (kind ∷ kinds) (v ∷ vs) = has_kind kind v && fit kinds vs

-- ---- arguments by their places, from 0

abbrev pub int_of : Option Plain → ℤ
int_of (Some (Int n)) = n
int_of _ = pos 0

abbrev pub long_of : Option Plain → ℤ
long_of (Some (Long n)) = n
long_of _ = pos 0

abbrev pub text_of : Option Plain → Option (List ℕ)
text_of (Some (Text units)) = Some units
text_of _ = None

-- the int at a place, 0 where none stands there
abbrev pub int_at : ℕ → List Plain → ℤ
int_at at args = int_of (slice_get args at)

abbrev pub long_at : ℕ → List Plain → ℤ
long_at at args = long_of (slice_get args at)

-- the units of the String at a place, none where there is null
abbrev pub text_at : ℕ → List Plain → Option (List ℕ)
text_at at args = text_of (slice_get args at)

-- the units of the String at a place, where it is never null
abbrev pub units_at : ℕ → List Plain → List ℕ
units_at at args = units_or_none (text_at at args) where
  units_or_none : Option (List ℕ) → List ℕ
  units_or_none None = []
  units_or_none (Some units) = units

-- Reading class files from places in their bytes (JVMS 4).
use Rattle.std.specs.Prelude.{◌≡◌, ℕ, ◌+◌, List, length, take, drop, nat_lt, true, false, Option, None, Some, Result, Ok, Err, if◌then◌else◌}
use Rattle.byteorder.specs.Endian.{big_number}
use Rattle.jl_logic.specs.Answers.{Fails}
use Rattle.jl_reading.specs.Reading.{◌>>=◌, number_at}
use Rattle.jl_classfile.specs.declared.place.Place.{Place}

-- What a call read from a place is what the definition gives for the bytes and the place, and it ends in the same bytes.
abbrev pub Reads : {X Y E F : Type 0} → (E → Option F) → (X → Y) → Place → Result (X × Place) E → (List ℕ → ℕ → Result (Y × ℕ) F) → Type 0
Reads told view from (Ok x) defined = (x.1.bytes.now ≡ from.bytes.now) × (defined from.bytes.now from.at ≡ Ok (view x.0, x.1.at))
Reads told view from (Err e) defined = Fails told e (defined from.bytes.now from.at)

-- A number of so many bytes was read from a place, or is not whole.
abbrev pub NumberOrCut : ℕ → Place → Option (ℕ × Place) → Type 0
NumberOrCut k from None = nat_lt (length from.bytes.now) (from.at + k) ≡ true
NumberOrCut k from (Some x) =
    (x.1.bytes.now ≡ from.bytes.now) × (x.1.at ≡ from.at + k) × (nat_lt (length from.bytes.now) (from.at + k) ≡ false) × (x.0 ≡ big_number k (drop from.at from.bytes.now))

-- The content of so many bytes was cut out from a place on, or is not whole.
abbrev pub ContentOrCut : ℕ → Place → Option (Place × Place) → Type 0
ContentOrCut count from None = nat_lt (length from.bytes.now) (from.at + count) ≡ true
ContentOrCut count from (Some x) =
    (x.0.bytes.now ≡ take (from.at + count) from.bytes.now) × (x.0.at ≡ from.at) × (x.1.bytes.now ≡ from.bytes.now) × (x.1.at ≡ from.at + count)
    × (nat_lt (length from.bytes.now) (from.at + count) ≡ false)

-- the bytes that a place has, and the place in them
abbrev pub inside : Place → List ℕ × ℕ
inside place = (place.bytes.now, place.at)

-- A length in four bytes, and where the content stands: the bytes up to its end, its place in them, and the place after it.
unfoldable pub content_at : {F : Type 0} → (ℕ → F) → List ℕ → ℕ → Result ((List ℕ × ℕ) × ℕ) F
content_at cut bytes at = do
  len ← number_at cut 4 bytes at
  if nat_lt (length bytes) (len.1 + len.0) then Err (cut len.1) else Ok ((take (len.1 + len.0) bytes, len.1), len.1 + len.0)

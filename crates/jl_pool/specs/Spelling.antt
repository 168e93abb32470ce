-- The spelling of a pool (JVMS 4.1, 4.4).
use Rattle.std.specs.Prelude.{◌≡◌, ℕ, ◌<◌, ◌^◌, List, [], ◌∷◌, ◌++◌, length, Bool, true, false, not, IsTrue, ⊤, ◌⊎◌}
use Rattle.std.specs.List.{flat_map, AllByRecursion}
use Rattle.jl_reading.specs.Reading.{Stands, two, four}
use Rattle.byteorder.specs.Endian.{big_bytes}
use Rattle.jl_names.specs.Text.{text_bytes, AreUnits}
use Rattle.jl_pool.specs.declared.entry.Entry.{Entry}
use Rattle.jl_pool.specs.declared.entry.Entry.TheVariants as entries
use Rattle.jl_pool.specs.Pool.{is_wide, is_unused, refers_rightly}

-- the bytes of an entry: its tag and its content
abbrev pub entry_bytes : Entry → List ℕ
entry_bytes entries.Unused = []
entry_bytes (entries.Utf8 units) = 1 ∷ two (length (text_bytes units)) ++ text_bytes units
entry_bytes (entries.Integer n) = 3 ∷ four n
entry_bytes (entries.Float n) = 4 ∷ four n
entry_bytes (entries.Long n) = 5 ∷ big_bytes 8 n
entry_bytes (entries.Double n) = 6 ∷ big_bytes 8 n
entry_bytes (entries.Class i) = 7 ∷ two i
entry_bytes (entries.String i) = 8 ∷ two i
entry_bytes (entries.Field i j) = 9 ∷ two i ++ two j
entry_bytes (entries.Method i j) = 10 ∷ two i ++ two j
entry_bytes (entries.InterfaceMethod i j) = 11 ∷ two i ++ two j
entry_bytes (entries.NameAndType i j) = 12 ∷ two i ++ two j
entry_bytes (entries.MethodHandle kind i) = 15 ∷ big_bytes 1 kind ++ two i
entry_bytes (entries.MethodType i) = 16 ∷ two i
entry_bytes (entries.Dynamic b i) = 17 ∷ two b ++ two i
entry_bytes (entries.InvokeDynamic b i) = 18 ∷ two b ++ two i
entry_bytes (entries.Module i) = 19 ∷ two i
entry_bytes (entries.Package i) = 20 ∷ two i

-- the numbers and the text of an entry fit their bytes
abbrev pub EntryFits : Entry → Type 0
EntryFits entries.Unused = ⊤
EntryFits (entries.Utf8 units) = AreUnits units × (length (text_bytes units) < 65536)
EntryFits (entries.Integer n) = n < 2 ^ 32
EntryFits (entries.Float n) = n < 2 ^ 32
EntryFits (entries.Long n) = n < 2 ^ 64
EntryFits (entries.Double n) = n < 2 ^ 64
EntryFits (entries.Class i) = i < 65536
EntryFits (entries.String i) = i < 65536
EntryFits (entries.Field i j) = (i < 65536) × (j < 65536)
EntryFits (entries.Method i j) = (i < 65536) × (j < 65536)
EntryFits (entries.InterfaceMethod i j) = (i < 65536) × (j < 65536)
EntryFits (entries.NameAndType i j) = (i < 65536) × (j < 65536)
EntryFits (entries.MethodHandle kind i) = (kind < 256) × (i < 65536)
EntryFits (entries.MethodType i) = i < 65536
EntryFits (entries.Dynamic b i) = (b < 65536) × (i < 65536)
EntryFits (entries.InvokeDynamic b i) = (b < 65536) × (i < 65536)
EntryFits (entries.Module i) = i < 65536
EntryFits (entries.Package i) = i < 65536

-- The unused indices are those behind a Long or a Double, and no others. The first argument says whether the entry before is one.
abbrev pub AreSpaced : Bool → List Entry → Type 0
AreSpaced true [] = ⊥
AreSpaced false [] = ⊤
AreSpaced true (e ∷ es) = IsTrue (is_unused e) × AreSpaced false es
AreSpaced false (e ∷ es) = IsTrue (not (is_unused e)) × AreSpaced (is_wide e) es

-- entries that make a pool, from index 1 on
pub record ArePoolEntries (es : List Entry) : Type 0 where
  pub few : length es < 65535
  pub spaced : AreSpaced false es
  pub fit : AllByRecursion EntryFits es
  pub refer : AllByRecursion (λ e. IsTrue (refers_rightly (entries.Unused ∷ es) e)) es

-- The count may be one more than there are entries, or 0 where there are none.
abbrev pub IsCount : ℕ → List Entry → Type 0
IsCount count es = (count ≡ length (entries.Unused ∷ es)) ⊎ ((count ≡ 0) × (es ≡ []))

-- a pool stands in the bytes, from its count on
pub record StandsPool (bytes : List ℕ) (at : ℕ) (pool : List Entry) (next : ℕ) : Type 0 where
  pub es : List Entry
  pub count : ℕ
  pub first_unused : pool ≡ entries.Unused ∷ es
  pub counts : IsCount count es
  pub right : ArePoolEntries es
  pub stands : Stands bytes at (two count ++ flat_map entry_bytes es) next

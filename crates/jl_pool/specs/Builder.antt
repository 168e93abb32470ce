-- Constants by what they say, and the pool that holds each of them once (JVMS 4.4).
use Rattle.std.specs.Prelude.{ℕ, ◌+◌, ◌<◌, nat_lt, List, [], ◌∷◌, ◌++◌, length, map, Result, Ok, Err, Bool, false, IsTrue, IsUtf8, Option, None, Some, if◌then◌else◌}
use Rattle.std.specs.List.{list_any, position_or_len, AllByRecursion}
use Rattle.jl_logic.specs.Order.{is_text}
use Rattle.jl_logic.specs.Lists.{AreDistinct}
use Rattle.jl_names.specs.Text.{text_bytes}
use Rattle.jl_names.specs.Utf16.{utf16}
use Rattle.jl_pool.specs.declared.constant.Constant.{Constant}
use Rattle.jl_pool.specs.declared.constant.Constant.TheVariants as constants
use Rattle.jl_pool.specs.declared.constant.BuildEnd.{BuildEnd}
use Rattle.jl_pool.specs.declared.constant.BuildEnd.TheVariants as ends
use Rattle.jl_pool.specs.declared.entry.Entry.{Entry}
use Rattle.jl_pool.specs.declared.entry.Entry.TheVariants as entries

-- what an error tells: that there are too many, or nothing for want of memory
abbrev pub build_told : BuildEnd → Option BuildEnd
build_told ends.TooMany = Some ends.TooMany
build_told ends.NoMemory = None

abbrev pub is_same : Constant → Constant → Bool
is_same (constants.Text a) (constants.Text b) = is_text a b
is_same (constants.Class a) (constants.Class b) = is_text a b
is_same (constants.Module a) (constants.Module b) = is_text a b
is_same (constants.Package a) (constants.Package b) = is_text a b
is_same _ _ = false

-- the text of a constant, or of its name
abbrev pub text_in : Constant → List ℕ
text_in (constants.Text t) = t
text_in (constants.Class t) = t
text_in (constants.Module t) = t
text_in (constants.Package t) = t

abbrev pub has : List Constant → Constant → Bool
has cs c = list_any (is_same c) cs

-- a constant at the end, where it is not there yet
abbrev pub with_constant : List Constant → Constant → List Constant
with_constant cs c = if has cs c then cs else cs ++ c ∷ []

-- a constant behind the text that it needs, which it may be itself
abbrev pub with_needed : List Constant → Constant → List Constant
with_needed cs c = with_constant (with_constant cs (constants.Text (text_in c))) c

-- the constants, where a pool has room for them
abbrev pub fitting : List Constant → Result (List Constant) BuildEnd
fitting cs = if nat_lt 65534 (length cs) then Err ends.TooMany else Ok cs

-- ---- the pool

-- the index of a constant: index 0 is unused
abbrev pub index_of : List Constant → Constant → ℕ
index_of cs c = position_or_len (is_same c) cs + 1

-- the same, and 0 where the constant is not there
abbrev pub index_in : List Constant → Constant → ℕ
index_in cs c = if has cs c then index_of cs c else 0

abbrev pub entry_of : List Constant → Constant → Entry
entry_of cs (constants.Text t) = entries.Utf8 (utf16 t)
entry_of cs (constants.Class t) = entries.Class (index_of cs (constants.Text t))
entry_of cs (constants.Module t) = entries.Module (index_of cs (constants.Text t))
entry_of cs (constants.Package t) = entries.Package (index_of cs (constants.Text t))

abbrev pub entries_of : List Constant → List Entry
entries_of cs = map (entry_of cs) cs

abbrev pub pool_of : List Constant → List Entry
pool_of cs = entries.Unused ∷ entries_of cs

-- ---- what a builder keeps

-- the text fits the two bytes of its length
abbrev pub IsShort : List ℕ → Type 0
IsShort t = length (text_bytes (utf16 t)) < 65536

-- a short text, which is there
pub record IsKept (cs : List Constant) (c : Constant) : Type 0 where
  pub utf8 : IsUtf8 (text_in c)
  pub short : IsShort (text_in c)
  pub text : IsTrue (has cs (constants.Text (text_in c)))

-- constants that make a pool
pub record AreKept (cs : List Constant) : Type 0 where
  pub few : length cs < 65535
  pub distinct : AreDistinct cs
  pub each : AllByRecursion (IsKept cs) cs

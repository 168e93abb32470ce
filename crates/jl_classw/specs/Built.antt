-- Classes that are made: every one of them has a class file (JVMS 4.1).
use Rattle.std.specs.Prelude.{◌≡◌, ℕ, ◌<◌, ◌≤◌, ◌^◌, List, ◌∷◌, length, position, Option, None, Some, IsTrue, ◌⊎◌, ⊤, IsUtf8}
use Rattle.std.specs.List.{AllByRecursion}
use Rattle.std.specs.Int.{cast_unsigned, w32, w64}
use Rattle.jl_names.specs.Text.{text_bytes, AreUnits}
use Rattle.jl_names.specs.Names.{names_a_class}
use Rattle.jl_pool.specs.declared.entry.Entry.{Entry}
use Rattle.jl_pool.specs.declared.entry.Entry.TheVariants as entries
use Rattle.jl_pool.specs.Builder.{IsShort}
use Rattle.jl_pool.specs.Spelling.{ArePoolEntries}
use Rattle.jl_class.specs.declared.member.CodeBytes.{CodeBytes}
use Rattle.jl_classfile.specs.Front.{is_version}
use Rattle.jl_class.specs.Classes.{Class}
use Rattle.jl_class.specs.Meaning.{is_of_modules, may_be_constant}
use Rattle.jl_class.specs.Spelling.{Parts, HandlerFits, Declares}
use Rattle.jl_classw.specs.declared.entry.Constant.{Constant}
use Rattle.jl_classw.specs.declared.entry.Constant.TheVariants as constants
use Rattle.jl_classw.specs.declared.entry.NewEntry.{NewEntry}
use Rattle.jl_classw.specs.declared.entry.NewEntry.TheVariants as news

-- ---- what a builder keeps

-- the pool of a class (JVMS 4.4)
pub record IsPool (pool : List Entry) : Type 0 where
  pub es : List Entry
  pub first : pool ≡ entries.Unused ∷ es
  pub right : ArePoolEntries es
  pub inside : position is_of_modules pool ≡ None

-- a class for which a file can be written
pub record IsBuilt (c : Class) : Type 0 where
  pub pool : IsPool c.pool
  pub minor : c.minor < 65536
  pub version : IsTrue (is_version c.major c.minor)
  pub parts : Parts
  pub declares : Declares parts c

-- ---- conditions

-- a superclass has a well-formed name, which is short
abbrev pub IsSuper : Option (List ℕ) → Type 0
IsSuper None = ⊤
IsSuper (Some name) = IsTrue (names_a_class name) × IsShort name

-- the units of a string are short enough for a pool (JVMS 4.4.7)
abbrev pub IsShortConstant : Constant → Type 0
IsShortConstant (constants.Text units) = AreUnits units × (length (text_bytes units) < 65536)
IsShortConstant _ = ⊤

abbrev pub IsShortEntry : NewEntry → Type 0
IsShortEntry (news.Class name) = IsShort name
IsShortEntry (news.Member tag class name desc) = IsShort class × IsShort name × IsShort desc
IsShortEntry (news.Constant constant) = IsShortConstant constant

-- a member has the tag of an entry that refers to one (JVMS 4.4-A)
abbrev pub IsTagged : NewEntry → Type 0
IsTagged (news.Class name) = ⊤
IsTagged (news.Member tag class name desc) = (tag ≡ 9) ⊎ ((tag ≡ 10) ⊎ (tag ≡ 11))
IsTagged (news.Constant constant) = ⊤

-- the tag of the entry of a constant (JVMS 4.4-A)
abbrev pub tag_of_constant : Constant → ℕ
tag_of_constant (constants.Int n) = 3
tag_of_constant (constants.Long n) = 5
tag_of_constant (constants.Text units) = 8

-- A field with these flags and this type may be given the constant (JVMS 4.7.2).
abbrev pub MayHave : ℕ → List ℕ → Option Constant → Type 0
MayHave flags desc None = ⊤
MayHave flags desc (Some constant) = IsTrue (may_be_constant flags desc (Some (tag_of_constant constant))) × IsShortConstant constant

abbrev pub AreShortFrames : Option (List ℕ) → Type 0
AreShortFrames None = ⊤
AreShortFrames (Some frames) = length frames ≤ 4194304

-- code and frames have at most 4,194,304 bytes each
pub record IsSmallCode (c : CodeBytes) : Type 0 where
  pub code : length c.code ≤ 4194304
  pub frames : AreShortFrames c.frames

abbrev pub IsSmall : Option CodeBytes → Type 0
IsSmall None = ⊤
IsSmall (Some code) = IsSmallCode code

-- the bits of a number fit its entry
abbrev pub IsFit : Constant → Type 0
IsFit (constants.Int n) = cast_unsigned w32 n < 2 ^ 32
IsFit (constants.Long n) = cast_unsigned w64 n < 2 ^ 64
IsFit (constants.Text units) = ⊤

-- what an entry says is UTF-8, and its number fits
abbrev pub IsSound : NewEntry → Type 0
IsSound (news.Class name) = IsUtf8 name
IsSound (news.Member tag class name desc) = IsUtf8 class × IsUtf8 name × IsUtf8 desc
IsSound (news.Constant constant) = IsFit constant

-- the numbers of a code fit their types
pub record AreNumbers (c : CodeBytes) : Type 0 where
  pub max_stack : c.max_stack < 65536
  pub max_locals : c.max_locals < 65536
  pub handlers : AllByRecursion HandlerFits c.handlers

abbrev pub AreCodeNumbers : Option CodeBytes → Type 0
AreCodeNumbers None = ⊤
AreCodeNumbers (Some c) = AreNumbers c

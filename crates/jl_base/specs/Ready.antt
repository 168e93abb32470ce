-- Tests that a row can be made a class (JVMS 4.1, 4.3, 4.5, 4.6).
use Rattle.std.specs.Prelude.{◌≡◌, ℕ, nat_lt, List, [], ◌∷◌, map, length, Option, None, Some, Result, Ok, Err, Bool, true, false, IsTrue, not, ◌&&◌, is_ok, if◌then◌else◌}
use Rattle.std.specs.List.{list_all}
use Rattle.jl_names.specs.Text.{text_bytes}
use Rattle.jl_names.specs.Utf16.{utf16}
use Rattle.jl_names.specs.Names.{names_a_class, names_a_field}
use Rattle.jl_pool.specs.Builder.{IsShort}
use Rattle.jl_class.specs.Classes.{Class}
use Rattle.jl_class.specs.Meaning.{field_key, method_key, is_member_among, are_class_flags, are_field_flags, are_method_flags, is_native, is_abstract, is_interface, may_extend, names_method_with, describes_a_field, describes_method_with, has_code}
use Rattle.jl_classw.specs.declared.fault.WriteFault.{WriteFault}
use Rattle.jl_classw.specs.Building.{Making, unless_empty}
use Rattle.jl_base.specs.declared.row.MemberKind.{MemberKind}
use Rattle.jl_base.specs.declared.row.MemberKind.TheVariants as kinds
use Rattle.jl_base.specs.Rows.{Row, Member, is_field}
use Rattle.jl_base.specs.Made.{class_begun, class_made, with_member}

-- the text fits an entry of a pool (JVMS 4.4.7)
abbrev pub is_short : List ℕ → Bool
is_short text = nat_lt (length (text_bytes (utf16 text))) 65536

-- a well-formed name of a class, which is short
abbrev pub is_short_class : List ℕ → Bool
is_short_class name = names_a_class name && is_short name

-- no superclass, or one with such a name
abbrev pub is_super : Option (List ℕ) → Bool
is_super None = true
is_super (Some name) = is_short_class name

-- Flags, name and superclass are those of a class.
abbrev pub begins : Row → Bool
begins row = are_class_flags row.flags && (is_short_class row.name && (is_super (unless_empty row.super_name) && may_extend row.flags row.name (unless_empty row.super_name)))

-- Flags, name and descriptor are those of a field, of an interface or of a class.
abbrev pub is_right_field : Bool → ℕ → List ℕ → List ℕ → Bool
is_right_field in_interface flags name desc = are_field_flags in_interface flags && (names_a_field name && (describes_a_field desc && (is_short name && is_short desc)))

-- Flags, name and descriptor are those of a method.
abbrev pub is_right_method : ℕ → List ℕ → List ℕ → Bool
is_right_method flags name desc = are_method_flags flags && (names_method_with flags name && (describes_method_with name desc && (is_short name && is_short desc)))

-- A method is abstract or native, as its kind says.
abbrev pub is_as_said : MemberKind → ℕ → Bool
is_as_said kinds.Abstract flags = is_abstract flags && not (is_native flags)
is_as_said _ flags = is_native flags && not (is_abstract flags)

-- The member can stand in a class, which is an interface or not.
abbrev pub is_right_member : Bool → Member → Bool
is_right_member in_interface m =
    if is_field m.kind then is_right_field in_interface m.flags m.name m.desc
    else (is_as_said m.kind m.flags && is_right_method m.flags m.name m.desc)

-- A field with these flags, this name and this type can be added to the class.
pub record MayAddField (c : Class) (flags : ℕ) (name desc : List ℕ) : Type 0 where
  pub right_flags : IsTrue (are_field_flags (is_interface c.flags) flags)
  pub right_name : IsTrue (names_a_field name)
  pub right_desc : IsTrue (describes_a_field desc)
  pub short : IsShort name × IsShort desc
  pub fresh : is_member_among (record { name = name; desc = desc }) (map field_key c.fields) ≡ false

-- A method with these flags, this name and these types can be added to the class without code.
pub record MayAddMethod (c : Class) (flags : ℕ) (name desc : List ℕ) : Type 0 where
  pub right_flags : IsTrue (are_method_flags flags)
  pub right_name : IsTrue (names_method_with flags name)
  pub right_desc : IsTrue (describes_method_with name desc)
  pub short : IsShort name × IsShort desc
  pub fresh : is_member_among (record { name = name; desc = desc }) (map method_key c.methods) ≡ false
  pub bodiless : has_code flags ≡ false

-- No field of the class, or no method, has its name and descriptor.
abbrev pub is_fresh : Class → Member → Bool
is_fresh c m = not (is_member_among (record { name = m.name; desc = m.desc }) (if is_field m.kind then map field_key c.fields else map method_key c.methods))

-- The member can be added to the class.
abbrev pub may_add : Class → Member → Bool
may_add c m = is_right_member (is_interface c.flags) m && is_fresh c m

-- the test holds of what was made, if anything was
abbrev pub if_made : (Making → Bool) → Result Making WriteFault → Bool
if_made test (Ok b) = test b
if_made test (Err fault) = true

-- Each of the members may be added behind those before it.
abbrev pub may_add_all : Making → List Member → Bool
may_add_all b [] = true
may_add_all b (m ∷ ms) = may_add b.class m && if_made (λ c. may_add_all c ms) (with_member b m)

-- All of them are names of classes that are short.
abbrev pub are_interface_names : List (List ℕ) → Bool
are_interface_names names = list_all is_short_class names

-- The members of the row can be added one after the other.
abbrev pub is_filled : Row → Bool
is_filled row = if_made (λ b. may_add_all b row.members) (class_begun row)

-- A class can be made of the row, and its pool has room for all that is named.
unfoldable pub is_ready : Row → Bool
is_ready row = begins row && (are_interface_names row.interfaces && (is_filled row && is_ok (class_made row)))

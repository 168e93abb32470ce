-- A pool is the list of its entries, index 0 the first. What stands at an index, and which references are right (JVMS 4.4).
use Rattle.std.specs.Prelude.{ℕ, ℤ, List, Option, None, Some, Bool, true, false, ◌&&◌, slice_get, option_map, if◌then◌else◌}
use Rattle.std.specs.Option.{option_and_then}
use Rattle.std.specs.Int.{cast_signed, w32, w64}
use Rattle.jl_names.specs.Text.{plain, has_no_lone_surrogate}
use Rattle.jl_names.specs.Names.{names_a_class}
use Rattle.jl_pool.specs.declared.entry.Entry.{Entry}
use Rattle.jl_pool.specs.declared.entry.Entry.TheVariants as entries

abbrev pub utf8_units : Option Entry → Option (List ℕ)
utf8_units (Some (entries.Utf8 units)) = Some units
utf8_units _ = None

abbrev pub utf8_of : List Entry → ℕ → Option (List ℕ)
utf8_of pool i = utf8_units (slice_get pool i)

abbrev pub text_of : List Entry → ℕ → Option (List ℕ)
text_of pool i = option_map plain (utf8_of pool i)

-- the text of units among which no surrogate stands alone
abbrev pub paired : List ℕ → Option (List ℕ)
paired units = if has_no_lone_surrogate units then Some (plain units) else None

abbrev pub paired_text : List Entry → ℕ → Option (List ℕ)
paired_text pool i = option_and_then paired (utf8_of pool i)

-- a text that has a property
abbrev pub that : (List ℕ → Bool) → List ℕ → Option (List ℕ)
that is_right text = if is_right text then Some text else None

-- the text of a Utf8 index, which has a property
abbrev pub text_that : (List ℕ → Bool) → List Entry → ℕ → Option (List ℕ)
text_that is_right pool i = option_and_then (that is_right) (paired_text pool i)

abbrev pub class_name : Option Entry → Option ℕ
class_name (Some (entries.Class name)) = Some name
class_name _ = None

abbrev pub class_of : List Entry → ℕ → Option ℕ
class_of pool i = class_name (slice_get pool i)

-- the name that a Class index has
abbrev pub class_named : List Entry → ℕ → Option (List ℕ)
class_named pool i = option_and_then (text_that names_a_class pool) (class_of pool i)

abbrev pub module_name : Option Entry → Option ℕ
module_name (Some (entries.Module name)) = Some name
module_name _ = None

abbrev pub module_of : List Entry → ℕ → Option ℕ
module_of pool i = module_name (slice_get pool i)

abbrev pub package_name : Option Entry → Option ℕ
package_name (Some (entries.Package name)) = Some name
package_name _ = None

abbrev pub package_of : List Entry → ℕ → Option ℕ
package_of pool i = package_name (slice_get pool i)

abbrev pub string_text : Option Entry → Option ℕ
string_text (Some (entries.String text)) = Some text
string_text _ = None

abbrev pub string_of : List Entry → ℕ → Option ℕ
string_of pool i = string_text (slice_get pool i)

-- the indices of a name and a descriptor
abbrev pub name_and_desc : Option Entry → Option (ℕ × ℕ)
name_and_desc (Some (entries.NameAndType name desc)) = Some (name, desc)
name_and_desc _ = None

abbrev pub name_and_type_of : List Entry → ℕ → Option (ℕ × ℕ)
name_and_type_of pool i = name_and_desc (slice_get pool i)

-- the tag of a member, its class, and its name and type
abbrev pub member_parts : Option Entry → Option (ℕ × ℕ × ℕ)
member_parts (Some (entries.Field class name)) = Some (9, class, name)
member_parts (Some (entries.Method class name)) = Some (10, class, name)
member_parts (Some (entries.InterfaceMethod class name)) = Some (11, class, name)
member_parts _ = None

abbrev pub member_of : List Entry → ℕ → Option (ℕ × ℕ × ℕ)
member_of pool i = member_parts (slice_get pool i)

-- bits as a signed number
abbrev pub integer_value : Option Entry → Option ℤ
integer_value (Some (entries.Integer bits)) = Some (cast_signed w32 bits)
integer_value _ = None

abbrev pub integer_of : List Entry → ℕ → Option ℤ
integer_of pool i = integer_value (slice_get pool i)

abbrev pub long_value : Option Entry → Option ℤ
long_value (Some (entries.Long bits)) = Some (cast_signed w64 bits)
long_value _ = None

abbrev pub long_of : List Entry → ℕ → Option ℤ
long_of pool i = long_value (slice_get pool i)

-- the tag with which an entry begins
abbrev pub entry_tag : Entry → Option ℕ
entry_tag entries.Unused = None
entry_tag (entries.Utf8 units) = Some 1
entry_tag (entries.Integer n) = Some 3
entry_tag (entries.Float n) = Some 4
entry_tag (entries.Long n) = Some 5
entry_tag (entries.Double n) = Some 6
entry_tag (entries.Class i) = Some 7
entry_tag (entries.String i) = Some 8
entry_tag (entries.Field i j) = Some 9
entry_tag (entries.Method i j) = Some 10
entry_tag (entries.InterfaceMethod i j) = Some 11
entry_tag (entries.NameAndType i j) = Some 12
entry_tag (entries.MethodHandle kind i) = Some 15
entry_tag (entries.MethodType i) = Some 16
entry_tag (entries.Dynamic b i) = Some 17
entry_tag (entries.InvokeDynamic b i) = Some 18
entry_tag (entries.Module i) = Some 19
entry_tag (entries.Package i) = Some 20

abbrev pub some_tag : Option Entry → Option ℕ
some_tag (Some e) = entry_tag e
some_tag None = None

abbrev pub tag_of : List Entry → ℕ → Option ℕ
tag_of pool i = some_tag (slice_get pool i)

abbrev pub is_utf8 : Option Entry → Bool
is_utf8 (Some (entries.Utf8 units)) = true
is_utf8 _ = false

abbrev pub is_class : Option Entry → Bool
is_class (Some (entries.Class name)) = true
is_class _ = false

abbrev pub is_name_and_type : Option Entry → Bool
is_name_and_type (Some (entries.NameAndType name desc)) = true
is_name_and_type _ = false

abbrev pub is_member : Option Entry → Bool
is_member (Some (entries.Field class name)) = true
is_member (Some (entries.Method class name)) = true
is_member (Some (entries.InterfaceMethod class name)) = true
is_member _ = false

-- each reference of an entry names an entry of its kind
abbrev pub refers_rightly : List Entry → Entry → Bool
refers_rightly pool (entries.Class i) = is_utf8 (slice_get pool i)
refers_rightly pool (entries.String i) = is_utf8 (slice_get pool i)
refers_rightly pool (entries.Field i j) = is_class (slice_get pool i) && is_name_and_type (slice_get pool j)
refers_rightly pool (entries.Method i j) = is_class (slice_get pool i) && is_name_and_type (slice_get pool j)
refers_rightly pool (entries.InterfaceMethod i j) = is_class (slice_get pool i) && is_name_and_type (slice_get pool j)
refers_rightly pool (entries.NameAndType i j) = is_utf8 (slice_get pool i) && is_utf8 (slice_get pool j)
refers_rightly pool (entries.MethodHandle kind i) = is_member (slice_get pool i)
refers_rightly pool (entries.MethodType i) = is_utf8 (slice_get pool i)
refers_rightly pool (entries.Dynamic b i) = is_name_and_type (slice_get pool i)
refers_rightly pool (entries.InvokeDynamic b i) = is_name_and_type (slice_get pool i)
refers_rightly pool (entries.Module i) = is_utf8 (slice_get pool i)
refers_rightly pool (entries.Package i) = is_utf8 (slice_get pool i)
refers_rightly pool _ = true

-- a Long or a Double, which takes two indices
abbrev pub is_wide : Entry → Bool
is_wide (entries.Long n) = true
is_wide (entries.Double n) = true
is_wide _ = false

abbrev pub is_some_wide : Option Entry → Bool
is_some_wide (Some e) = is_wide e
is_some_wide None = false

abbrev pub is_unused : Entry → Bool
is_unused entries.Unused = true
is_unused _ = false

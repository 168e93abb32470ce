-- What an instruction may name in the pool (JVMS 4.9.1, 6.5).
use Rattle.std.specs.Prelude.{ℕ, ◌+◌, nat_lt, nat_le, List, [], ◌∷◌, Option, None, Some, Result, Ok, Err, Bool, true, false, not, ◌&&◌, ◌||◌, ◌==◌, if◌then◌else◌, is_some}
use Rattle.std.specs.List.{list_any}
use Rattle.jl_logic.specs.Order.{is_text}
use Rattle.jl_names.specs.declared.fault.TextFault.{TextFault}
use Rattle.jl_names.specs.declared.types.BaseType.{BaseType}
use Rattle.jl_names.specs.declared.types.BaseType.TheVariants.{Prim, Class}
use Rattle.jl_names.specs.declared.types.FieldType.{FieldType}
use Rattle.jl_names.specs.declared.types.Descriptor.{Descriptor}
use Rattle.jl_names.specs.declared.types.Descriptor.TheVariants.{Field, Method}
use Rattle.jl_names.specs.Descriptors.{descriptor_read, slots, brackets}
use Rattle.jl_pool.specs.declared.entry.Entry.{Entry}
use Rattle.jl_pool.specs.Pool.{tag_of, text_of, paired_text, class_of, name_and_type_of, member_of}
use Rattle.jl_optable.specs.declared.ops.TheConstants as ops

-- there is an entry, with this tag
abbrev pub has_tag : ℕ → Option ℕ → Bool
has_tag tag None = false
has_tag tag (Some found) = found == tag

-- ---- classes

-- the text of a class, by the index of the text
abbrev pub text_named : List Entry → Option ℕ → Option (List ℕ)
text_named pool None = None
text_named pool (Some name) = text_of pool name

-- the text of the class at an index: its name, or the descriptor of an array
abbrev pub class_text : List Entry → ℕ → Option (List ℕ)
class_text pool i = text_named pool (class_of pool i)

-- ---- members

-- the tag among the parts of a member
abbrev pub first_of : Option (ℕ × ℕ × ℕ) → Option ℕ
first_of None = None
first_of (Some member) = Some member.0

-- the tag of a member: 9 for a field, 10 for a method of a class, 11 for a method of an interface
abbrev pub member_tag : List Entry → ℕ → Option ℕ
member_tag pool i = first_of (member_of pool i)

-- the indices of a member's name and descriptor
abbrev pub named_by : List Entry → Option (ℕ × ℕ × ℕ) → Option (ℕ × ℕ)
named_by pool None = None
named_by pool (Some member) = name_and_type_of pool member.2

-- the text of a name, by the indices of name and descriptor
abbrev pub name_text : List Entry → Option (ℕ × ℕ) → Option (List ℕ)
name_text pool None = None
name_text pool (Some named) = text_of pool named.0

-- Of a descriptor each surrogate stands in a pair, else it is none.
abbrev pub desc_text : List Entry → Option (ℕ × ℕ) → Option (List ℕ)
desc_text pool None = None
desc_text pool (Some named) = paired_text pool named.1

-- the text of the class among the parts of a member
abbrev pub owner_text : List Entry → Option (ℕ × ℕ × ℕ) → Option (List ℕ)
owner_text pool None = None
owner_text pool (Some member) = class_text pool member.1

-- the text of the class that a member is looked up in
abbrev pub member_class : List Entry → ℕ → Option (List ℕ)
member_class pool i = owner_text pool (member_of pool i)

-- the name of a member
abbrev pub member_name : List Entry → ℕ → Option (List ℕ)
member_name pool i = name_text pool (named_by pool (member_of pool i))

-- the descriptor of a member, as a text
abbrev pub member_desc : List Entry → ℕ → Option (List ℕ)
member_desc pool i = desc_text pool (named_by pool (member_of pool i))

-- ---- descriptors

-- what a text says as a descriptor, where it is one
abbrev pub descriptor_or_none : Result Descriptor TextFault → Option Descriptor
descriptor_or_none (Ok d) = Some d
descriptor_or_none (Err f) = None

-- what a text says as a descriptor, where there is one and it is one
abbrev pub described : Option (List ℕ) → Option Descriptor
described None = None
described (Some text) = descriptor_or_none (descriptor_read text)

-- what the descriptor of a member says
abbrev pub member_type : List Entry → ℕ → Option Descriptor
member_type pool i = described (member_desc pool i)

-- the descriptor of a field
abbrev pub is_field_type : Option Descriptor → Bool
is_field_type (Some (Field t)) = true
is_field_type _ = false

-- the descriptor of a method
abbrev pub is_method_type : Option Descriptor → Bool
is_method_type (Some (Method params result)) = true
is_method_type _ = false

-- F or D without dimensions
abbrev pub is_float : FieldType → Bool
is_float t = (t.dims == 0) && is_float_base t.base where
  is_float_base : BaseType → Bool
  is_float_base (Prim b) = (b == 70) || (b == 68)
  is_float_base (Class from to) = false

-- a result that is F or D
abbrev pub is_float_result : Option FieldType → Bool
is_float_result None = false
is_float_result (Some t) = is_float t

-- a field that is F or D
abbrev pub is_float_field : Option Descriptor → Bool
is_float_field (Some (Field t)) = is_float t
is_float_field _ = false

-- a parameter or the result is F or D
abbrev pub has_float : Option Descriptor → Bool
has_float (Some (Method params result)) = list_any is_float params || is_float_result result
has_float _ = false

-- ---- names

-- <init>
abbrev pub init : List ℕ
init = 60 ∷ 105 ∷ 110 ∷ 105 ∷ 116 ∷ 62 ∷ []

-- the first byte is a <
abbrev pub begins_with_angle : List ℕ → Bool
begins_with_angle [] = false
begins_with_angle (b ∷ bs) = b == 60

-- Of the names that begin with < only <init> is invoked, and only by invokespecial.
abbrev pub may_invoke : ℕ → Option (List ℕ) → Bool
may_invoke op None = false
may_invoke op (Some name) = not (begins_with_angle name) || ((op == ops.INVOKESPECIAL) && is_text name init)

-- the number of [ with which the name of a class begins
abbrev pub brackets_or_none : Option (List ℕ) → Option ℕ
brackets_or_none None = None
brackets_or_none (Some name) = Some (brackets name)

-- how many dimensions a class has, which are the [ of its name
abbrev pub class_dims : List Entry → ℕ → Option ℕ
class_dims pool i = brackets_or_none (class_text pool i)

-- ---- which indices are right

-- Integer, Float, Class, String, MethodHandle, MethodType, Dynamic
abbrev pub is_loadable : List Entry → ℕ → Bool
is_loadable pool i = list_any (λ tag. has_tag tag (tag_of pool i)) (3 ∷ 4 ∷ 7 ∷ 8 ∷ 15 ∷ 16 ∷ 17 ∷ [])

-- Long, Double, Dynamic
abbrev pub is_loadable_wide : List Entry → ℕ → Bool
is_loadable_wide pool i = list_any (λ tag. has_tag tag (tag_of pool i)) (5 ∷ 6 ∷ 17 ∷ [])

-- a field with the descriptor of one
abbrev pub is_field : List Entry → ℕ → Bool
is_field pool i = has_tag 9 (member_tag pool i) && is_field_type (member_type pool i)

-- invokevirtual names a method of a class, invokeinterface one of an interface, and invokespecial and invokestatic either
abbrev pub has_method_tag : ℕ → Option ℕ → Bool
has_method_tag op tag =
    if op == ops.INVOKEVIRTUAL then has_tag 10 tag
    else if op == ops.INVOKEINTERFACE then has_tag 11 tag
    else has_tag 10 tag || has_tag 11 tag

-- a method that an invoke takes, by its tag, its name and its descriptor
abbrev pub is_method : List Entry → ℕ → ℕ → Bool
is_method pool op i = has_method_tag op (member_tag pool i) && (may_invoke op (member_name pool i) && is_method_type (member_type pool i))

-- the count of invokeinterface: the slots of the parameters and of the receiver
abbrev pub is_slot_count : ℕ → Option Descriptor → Bool
is_slot_count count (Some (Method params result)) = count == 1 + slots params
is_slot_count count _ = false

-- there is a class, with dimensions that are right
abbrev pub is_dims : (ℕ → Bool) → Option ℕ → Bool
is_dims right None = false
is_dims right (Some dims) = right dims

-- new makes no array, anewarray an array of at most 255 dimensions, checkcast and instanceof take each class
abbrev pub is_class_for : List Entry → ℕ → ℕ → Bool
is_class_for pool op i =
    if op == ops.NEW then is_dims (λ dims. dims == 0) (class_dims pool i)
    else if op == ops.ANEWARRAY then is_dims (λ dims. nat_lt dims 255) (class_dims pool i)
    else is_some (class_of pool i)

-- multianewarray makes at least one dimension, and at most those of the class
abbrev pub is_array_of : List Entry → ℕ → ℕ → Bool
is_array_of pool i count = is_dims (λ dims. nat_lt 0 count && nat_le count dims) (class_dims pool i)

-- the index of an instruction whose only operand is one
unfoldable pub is_right_index : List Entry → ℕ → ℕ → Bool
is_right_index pool op i =
    if op == ops.LDC2_W then is_loadable_wide pool i
    else if nat_lt op ops.LDC2_W then is_loadable pool i
    else if nat_le op ops.PUTFIELD then is_field pool i
    else if nat_le op ops.INVOKEINTERFACE then is_method pool op i
    else is_class_for pool op i

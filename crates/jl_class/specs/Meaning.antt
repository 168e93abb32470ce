-- What flags, indices and descriptors mean in a class file (JVMS 4.1, 4.2, 4.3, 4.5, 4.6, 4.7.2).
use Rattle.std.specs.Prelude.{ℕ, List, Option, None, Some, Result, Ok, Bool, true, false, not, ◌&&◌, ◌||◌, ◌==◌, codes, bit_and, if◌then◌else◌}
use Rattle.std.specs.List.{list_any}
use Rattle.std.specs.Option.{option_and_then}
use Rattle.jl_logic.specs.Order.{is_text}
use Rattle.jl_names.specs.declared.fault.TextFault.{TextFault}
use Rattle.jl_names.specs.declared.types.Descriptor.{Descriptor}
use Rattle.jl_names.specs.declared.types.Descriptor.TheVariants as descriptors
use Rattle.jl_names.specs.Descriptors.{descriptor_read}
use Rattle.jl_names.specs.Names.{names_a_method}
use Rattle.jl_pool.specs.declared.entry.Entry.{Entry}
use Rattle.jl_pool.specs.Pool.{class_named, tag_of, entry_tag}
use Rattle.jl_optable.specs.declared.attributes.AttrForm.{AttrForm}
use Rattle.jl_optable.specs.declared.attributes.AttrForm.TheVariants as forms
use Rattle.jl_optable.specs.Attributes.{name_of}
use Rattle.jl_class.specs.declared.nests.ClassAttribute.{ClassAttribute}
use Rattle.jl_class.specs.declared.nests.ClassAttribute.TheVariants as attributes
use Rattle.jl_class.specs.declared.member.FieldDecl.{FieldDecl}
use Rattle.jl_class.specs.declared.member.MethodDecl.{MethodDecl}
use Rattle.jl_class.specs.declared.member.MemberKey.{MemberKey}

-- ---- flags (JVMS 4.1-B, 4.5-A, 4.6-A)

-- all bits of the flag are set
abbrev pub is_set : ℕ → ℕ → Bool
is_set flags flag = bit_and flags flag == flag

abbrev pub is_public : ℕ → Bool
is_public flags = is_set flags 0x1

abbrev pub is_private : ℕ → Bool
is_private flags = is_set flags 0x2

abbrev pub is_protected : ℕ → Bool
is_protected flags = is_set flags 0x4

abbrev pub is_static : ℕ → Bool
is_static flags = is_set flags 0x8

abbrev pub is_final : ℕ → Bool
is_final flags = is_set flags 0x10

abbrev pub is_native : ℕ → Bool
is_native flags = is_set flags 0x100

abbrev pub is_interface : ℕ → Bool
is_interface flags = is_set flags 0x200

abbrev pub is_abstract : ℕ → Bool
is_abstract flags = is_set flags 0x400

abbrev pub is_module : ℕ → Bool
is_module flags = is_set flags 0x8000

-- An interface is abstract, nothing is both final and abstract, and nothing is a module.
abbrev pub are_class_flags : ℕ → Bool
are_class_flags flags = not (is_interface flags && not (is_abstract flags)) && (not (is_final flags && is_abstract flags) && not (is_module flags))

-- two of public, private and protected
abbrev pub has_two_accesses : ℕ → Bool
has_two_accesses flags = (is_public flags && is_private flags) || ((is_public flags && is_protected flags) || (is_private flags && is_protected flags))

-- A field has one access at most, and in an interface, which the first argument says, it is static.
abbrev pub are_field_flags : Bool → ℕ → Bool
are_field_flags in_interface flags = not (has_two_accesses flags) && not (in_interface && not (is_static flags))

-- A method has one access at most, and an abstract one is neither static nor private.
abbrev pub are_method_flags : ℕ → Bool
are_method_flags flags = not (has_two_accesses flags) && not (is_abstract flags && (is_static flags || is_private flags))

-- a method that is neither native nor abstract has code
abbrev pub has_code : ℕ → Bool
has_code flags = not (is_native flags || is_abstract flags)

-- ---- names by the pool

-- The superclass that an index has: none for 0, else the class.
abbrev pub super_named : List Entry → ℕ → Option (Option (List ℕ))
super_named pool i = if i == 0 then Some None else option_and_then (λ name. Some (Some name)) (class_named pool i)

abbrev pub is_object : List ℕ → Bool
is_object name = is_text name (codes "java/lang/Object")

-- Only java/lang/Object has no superclass, and that of an interface is java/lang/Object. The flags and the name are those of the class.
abbrev pub may_extend : ℕ → List ℕ → Option (List ℕ) → Bool
may_extend flags name None = is_object name && not (is_interface flags)
may_extend flags name (Some super) = not (is_interface flags) || is_object super

-- the tag of a Module or of a Package
abbrev pub is_modules_tag : Option ℕ → Bool
is_modules_tag None = false
is_modules_tag (Some tag) = (tag == 19) || (tag == 20)

-- a Module or a Package entry, which a class file has not (JVMS 4.4.11, 4.4.12)
abbrev pub is_of_modules : Entry → Bool
is_of_modules e = is_modules_tag (entry_tag e)

abbrev pub has_of_modules : List Entry → ℕ → Bool
has_of_modules pool i = is_modules_tag (tag_of pool i)

-- ---- members

-- the name of what makes an instance, and of what initializes a class (JVMS 2.9)
abbrev pub is_init : List ℕ → Bool
is_init name = is_text name (codes "<init>")

abbrev pub is_clinit : List ℕ → Bool
is_clinit name = is_text name (codes "<clinit>")

-- The name of a method with these flags: <init> is of an instance and not abstract, <clinit> is static.
abbrev pub names_method_with : ℕ → List ℕ → Bool
names_method_with flags name =
    names_a_method name && (not (is_init name && (is_static flags || is_abstract flags)) && not (is_clinit name && not (is_static flags)))

abbrev pub is_of_field : Result Descriptor TextFault → Bool
is_of_field (Ok (descriptors.Field t)) = true
is_of_field _ = false

abbrev pub is_of_method : Result Descriptor TextFault → Bool
is_of_method (Ok (descriptors.Method params result)) = true
is_of_method _ = false

abbrev pub is_of_procedure : Result Descriptor TextFault → Bool
is_of_procedure (Ok (descriptors.Method params None)) = true
is_of_procedure _ = false

-- the text spells the type of a field
abbrev pub describes_a_field : List ℕ → Bool
describes_a_field text = is_of_field (descriptor_read text)

-- The text spells the types of a method with this name: <init> has no result, and <clinit> neither parameters nor result.
abbrev pub describes_method_with : List ℕ → List ℕ → Bool
describes_method_with name text =
    if is_clinit name then is_text text (codes "()V")
    else if is_init name then is_of_procedure (descriptor_read text)
    else is_of_method (descriptor_read text)

-- by what a member is told from the others
abbrev pub field_key : FieldDecl → MemberKey
field_key f = record { name = f.name; desc = f.desc }

abbrev pub method_key : MethodDecl → MemberKey
method_key m = record { name = m.name; desc = m.desc }

abbrev pub is_same_member : MemberKey → MemberKey → Bool
is_same_member a b = is_text a.name b.name && is_text a.desc b.desc

-- the member is one of these
abbrev pub is_member_among : MemberKey → List MemberKey → Bool
is_member_among key keys = list_any (is_same_member key) keys

-- ---- constants, by the tags of their entries (JVMS 4.4-A, 4.7.2-A)

-- one of I S C B Z
abbrev pub is_int_type : List ℕ → Bool
is_int_type desc = is_text desc (codes "I") || (is_text desc (codes "S") || (is_text desc (codes "C") || (is_text desc (codes "B") || is_text desc (codes "Z"))))

-- What a field of a type may be set to: an Integer, a Float, a Long, a Double, a String, or nothing.
abbrev pub constant_tag : List ℕ → Option ℕ
constant_tag desc =
    if is_int_type desc then Some 3
    else if is_text desc (codes "F") then Some 4
    else if is_text desc (codes "J") then Some 5
    else if is_text desc (codes "D") then Some 6
    else if is_text desc (codes "Ljava/lang/String;") then Some 8
    else None

-- the tag is one of these
abbrev pub is_constant_tag : ℕ → Bool
is_constant_tag tag = (tag == 3) || ((tag == 4) || ((tag == 5) || ((tag == 6) || (tag == 8))))

abbrev pub is_tag : Option ℕ → ℕ → Bool
is_tag None tag = false
is_tag (Some wanted) tag = wanted == tag

-- A field with these flags and this type may have the entry with this tag for its constant. Only a static field is set to it, so only there its type counts.
abbrev pub may_be_constant : ℕ → List ℕ → Option ℕ → Bool
may_be_constant flags desc None = false
may_be_constant flags desc (Some tag) = if is_static flags then is_tag (constant_tag desc) tag else is_constant_tag tag

abbrev pub sets_field : ℕ → List ℕ → List Entry → ℕ → Bool
sets_field flags desc pool i = may_be_constant flags desc (tag_of pool i)

-- ---- names and forms of attributes (JVMS 4.7)

abbrev pub names_constant_value : List ℕ → Bool
names_constant_value name = is_text name (name_of forms.ConstantIndex)

abbrev pub names_code : List ℕ → Bool
names_code name = is_text name (name_of forms.CodeBody)

abbrev pub names_frames : List ℕ → Bool
names_frames name = is_text name (name_of forms.Frames)

-- the same form, among those of attributes of a class
abbrev pub is_form : AttrForm → AttrForm → Bool
is_form forms.ConstantIndex forms.ConstantIndex = true
is_form forms.CodeBody forms.CodeBody = true
is_form forms.Frames forms.Frames = true
is_form forms.Host forms.Host = true
is_form forms.Members forms.Members = true
is_form forms.Components forms.Components = true
is_form forms.Permits forms.Permits = true
is_form _ _ = false

-- What was read keeps an attribute of this form out: one of its own form, and a host keeps members out and members a host.
abbrev pub keeps_out : AttrForm → ClassAttribute → Bool
keeps_out forms.Host (attributes.Host name) = true
keeps_out forms.Host (attributes.Members names) = true
keeps_out forms.Members (attributes.Host name) = true
keeps_out forms.Members (attributes.Members names) = true
keeps_out forms.Components attributes.Record = true
keeps_out forms.Permits (attributes.Permits names) = true
keeps_out _ _ = false

-- An attribute of a class with these flags may stand behind those that were read. A final class permits nobody.
abbrev pub may_follow : ℕ → List ClassAttribute → AttrForm → Bool
may_follow flags done form = not (is_final flags && is_form forms.Permits form) && not (list_any (keeps_out form) done)

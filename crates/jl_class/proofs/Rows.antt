-- Worked rows: the definitions on small files.
use Rattle.std.proofs.Common.{◌≡◌, ℕ, List, [], ◌∷◌, ◌++◌, None, Some, Ok, Err, true, false, refl, arith}
use Rattle.std.specs.Prelude.{codes}
use Rattle.jl_reading.specs.Reading.{each_at, steps_at}
use Rattle.jl_names.specs.Names.{parts}
use Rattle.jl_names.specs.Text.{plain, has_no_lone_surrogate, units_read, units_from, unit_at}
use Rattle.jl_pool.specs.Reading.{pool_at, entry_at, content_at, text_at, bits_at}
use Rattle.jl_pool.specs.declared.entry.Entry.{Entry}
use Rattle.jl_pool.specs.declared.entry.Entry.TheVariants as entries
use Rattle.jl_class.specs.declared.fault.ClassFault.TheVariants as faults
use Rattle.jl_class.specs.Meaning.{are_class_flags, are_field_flags, are_method_flags, may_extend, names_method_with, names_constant_value}
use Rattle.jl_optable.specs.Attributes.{first_row}
use Rattle.jl_optable.specs.declared.attributes.AttrForm.TheVariants as forms
use Rattle.jl_classfile.specs.Front.{front_at}
use Rattle.jl_classfile.specs.Places.{content_at as window_at}
use Rattle.jl_classfile.specs.Attributes.{attribute_at, read_at, passed_at}
use Rattle.jl_classfile.specs.Spelling.{contents}
use Rattle.jl_class.specs.declared.nests.ClassAttribute.TheVariants as attributes
use Rattle.jl_class.specs.Classes.{Class}
use Rattle.jl_class.specs.Longer.{IsReadPast}
use Rattle.jl_class.specs.Spelling.{code_bytes, member_bytes}
use Rattle.jl_class.specs.Meaning.{may_follow}
use Rattle.jl_class.specs.Reading.{class_pool_at, flags_at, named_at, super_at, interfaces_at, fields_at, methods_at, one_at, nests_at, meaning_at, named_in, host_at, component_at, each_component_at, components_at, record_at, class_of, constant_at, constants_at, long_text_at, handlers_at, code_at}

-- the bytes of p/A up to its flags, by the major version and the count of the pool
abbrev front : ℕ → ℕ → List ℕ
front major count =
    0xca ∷ 0xfe ∷ 0xba ∷ 0xbe ∷ 0 ∷ 0 ∷ 0 ∷ major ∷ 0 ∷ count ∷ 1 ∷ 0 ∷ 3 ∷ codes "p/A"
    ++ (7 ∷ 0 ∷ 1 ∷ 1 ∷ 0 ∷ 16 ∷ codes "java/lang/Object") ++ (7 ∷ 0 ∷ 3 ∷ [])

-- its flags, name and superclass, by the high byte of the flags and the index of the superclass
abbrev middle : ℕ → ℕ → List ℕ
middle high super = high ∷ 0x21 ∷ 0 ∷ 2 ∷ 0 ∷ super ∷ []

abbrev tables : List ℕ
tables = 0 ∷ 0 ∷ 0 ∷ 0 ∷ 0 ∷ 0 ∷ 0 ∷ 0 ∷ []

read : class_of (front 53 5 ++ (middle 0 4 ++ tables)) ≡ Ok (record {
  major = 53;
  minor = 0;
  flags = 0x21;
  name = codes "p/A";
  super_name = Some (codes "java/lang/Object");
  interfaces = [];
  fields = [];
  methods = [];
  nest_host = None;
  nest_members = [];
  permits = None;
  pool = entries.Unused ∷ entries.Utf8 (codes "p/A") ∷ entries.Class 1 ∷ entries.Utf8 (codes "java/lang/Object") ∷ entries.Class 3 ∷ [];
})
unfolding class_of front_at class_pool_at flags_at named_at super_at interfaces_at fields_at methods_at nests_at steps_at each_at pool_at entry_at content_at text_at bits_at units_read units_from unit_at plain has_no_lone_surrogate lib.Utf8.encode parts
read = refl

trailing : class_of (front 53 5 ++ (middle 0 4 ++ tables ++ 0 ∷ [])) ≡ Err faults.Trailing
unfolding class_of front_at class_pool_at flags_at named_at super_at interfaces_at fields_at methods_at nests_at steps_at each_at pool_at entry_at content_at text_at bits_at units_read units_from unit_at plain has_no_lone_surrogate lib.Utf8.encode parts
trailing = refl

new_version : class_of (front 63 5) ≡ Err (faults.Version 63 0)
unfolding class_of front_at
new_version = refl

long_count : class_of (front 53 6 ++ (middle 0 4 ++ tables)) ≡ Err (faults.Pool 5)
unfolding class_of front_at class_pool_at each_at pool_at entry_at content_at text_at bits_at units_read units_from unit_at
long_count = refl

not_abstract : class_of (front 53 5 ++ (middle 2 4 ++ tables)) ≡ Err (faults.Flags 41)
unfolding class_of front_at class_pool_at flags_at each_at pool_at entry_at content_at text_at bits_at units_read units_from unit_at
not_abstract = refl

no_super : class_of (front 53 5 ++ (middle 0 0 ++ tables)) ≡ Err (faults.Name 45)
unfolding class_of front_at class_pool_at flags_at named_at super_at each_at pool_at entry_at content_at text_at bits_at units_read units_from unit_at plain has_no_lone_surrogate lib.Utf8.encode parts
no_super = refl

cut_short : class_of (front 53 5 ++ (middle 0 4 ++ (0 ∷ 0 ∷ 0 ∷ 0 ∷ 0 ∷ 0 ∷ 0 ∷ []))) ≡ Err (faults.Short 53)
unfolding class_of front_at class_pool_at flags_at named_at super_at interfaces_at fields_at methods_at nests_at steps_at each_at pool_at entry_at content_at text_at bits_at units_read units_from unit_at plain has_no_lone_surrogate lib.Utf8.encode parts
cut_short = refl

newest_version : class_of (front 62 5) ≡ Err (faults.Version 62 0)
unfolding class_of front_at
newest_version = refl

-- ---- flags and superclasses

not_abstract_flags : are_class_flags 0x200 ≡ false
not_abstract_flags = refl

interface_flags : are_class_flags 0x600 ≡ true
interface_flags = refl

instance_field_of_interface : are_field_flags true 0x1 ≡ false
instance_field_of_interface = refl

abstract_and_static : are_method_flags 0x408 ≡ false
abstract_and_static = refl

interface_of_another : may_extend 0x600 (codes "p/I") (Some (codes "p/A")) ≡ false
interface_of_another = refl

object_itself : may_extend 0x21 (codes "java/lang/Object") None ≡ true
object_itself = refl

static_init : names_method_with 0x8 (codes "<init>") ≡ false
static_init = refl

-- ---- attributes

abbrev pool : List Entry
pool = entries.Unused ∷ entries.Utf8 (codes "ConstantValue") ∷ entries.Integer 7 ∷ entries.Float 0 ∷ entries.Utf8 (codes "StackMapTable") ∷ []

constant_of_its_type : constant_at 0x8 (codes "I") pool 3 (0 ∷ 2 ∷ []) 0 ≡ Ok 2
unfolding constant_at
constant_of_its_type = refl

constant_of_another_type : constant_at 0x8 (codes "I") pool 3 (0 ∷ 3 ∷ []) 0 ≡ Err (faults.Attribute 3)
unfolding constant_at
constant_of_another_type = refl

constant_of_an_instance : constant_at 0 (codes "I") pool 3 (0 ∷ 3 ∷ []) 0 ≡ Ok 3
unfolding constant_at
constant_of_an_instance = refl

second_constant : constants_at 0x8 (codes "I") pool (0 ∷ 2 ∷ 0 ∷ 1 ∷ 0 ∷ 0 ∷ 0 ∷ 2 ∷ 0 ∷ 2 ∷ 0 ∷ 1 ∷ []) 0 ≡ Err (faults.Attribute 10)
unfolding constants_at steps_at attribute_at read_at passed_at window_at one_at constant_at plain lib.Utf8.encode
second_constant = refl

-- the content of a Code attribute up to its attributes
abbrev code : List ℕ
code = 0 ∷ 1 ∷ 0 ∷ 2 ∷ 0 ∷ 0 ∷ 0 ∷ 1 ∷ 177 ∷ 0 ∷ 0 ∷ []

code_read : code_at pool 3 (code ++ 0 ∷ 0 ∷ []) 0 ≡ Ok (record { max_stack = 1; max_locals = 2; code = 177 ∷ []; handlers = []; frames = None })
unfolding code_at long_text_at window_at handlers_at one_at each_at steps_at
code_read = refl

code_with_frames : code_at pool 3 (code ++ 0 ∷ 1 ∷ 0 ∷ 4 ∷ 0 ∷ 0 ∷ 0 ∷ 1 ∷ 9 ∷ []) 0
    ≡ Ok (record { max_stack = 1; max_locals = 2; code = 177 ∷ []; handlers = []; frames = Some (9 ∷ []) })
unfolding code_at long_text_at window_at handlers_at one_at each_at steps_at attribute_at read_at passed_at plain lib.Utf8.encode
code_with_frames = refl

code_cut : code_at pool 3 (code ++ 0 ∷ []) 0 ≡ Err (faults.Attribute 3)
unfolding code_at long_text_at window_at handlers_at one_at each_at
code_cut = refl

frames_cut : code_at pool 3 (code ++ 0 ∷ 1 ∷ 0 ∷ 4 ∷ 0 ∷ []) 0 ≡ Err (faults.Attribute 13)
unfolding code_at long_text_at window_at handlers_at one_at each_at steps_at attribute_at read_at passed_at plain lib.Utf8.encode
frames_cut = refl

-- ---- spellings

code_spelled : code_bytes (record { max_stack = 1; max_locals = 2; code = 177 ∷ []; handlers = []; frames = None }) [] ≡ code ++ 0 ∷ 0 ∷ []
code_spelled = refl

member_spelled : member_bytes (record { flags = 0x8; name = 5; desc = 6; attributes = record { index = 1; content = 0 ∷ 2 ∷ [] } ∷ [] }) ≡ 0 ∷ 8 ∷ 0 ∷ 5 ∷ 0 ∷ 6 ∷ 0 ∷ 1 ∷ 0 ∷ 1 ∷ 0 ∷ 0 ∷ 0 ∷ 2 ∷ 0 ∷ 2 ∷ []
member_spelled = refl

constants_among : contents pool names_constant_value (record { index = 4; content = [] } ∷ record { index = 1; content = 0 ∷ 2 ∷ [] } ∷ []) ≡ (0 ∷ 2 ∷ []) ∷ []
unfolding plain lib.Utf8.encode
constants_among = refl

-- ---- attributes of a class (JVMS 4.7.28 to 4.7.31)

-- behind 1 `p/A` and 2 that class
abbrev classes : List Entry
classes = entries.Unused ∷ entries.Utf8 (codes "p/A") ∷ entries.Class 1 ∷ entries.Utf8 (codes "NestHost") ∷ entries.Utf8 (codes "PermittedSubclasses") ∷ []

host_read : nests_at 55 0x21 classes (0 ∷ 1 ∷ 0 ∷ 3 ∷ 0 ∷ 0 ∷ 0 ∷ 2 ∷ 0 ∷ 2 ∷ []) 0 ≡ Ok (record { host = Some (codes "p/A"); members = []; permits = None }, 10)
unfolding nests_at steps_at attribute_at read_at passed_at window_at meaning_at host_at named_in first_row plain has_no_lone_surrogate lib.Utf8.encode parts
host_read = refl

host_too_early : nests_at 54 0x21 classes (0 ∷ 1 ∷ 0 ∷ 3 ∷ 0 ∷ 0 ∷ 0 ∷ 2 ∷ 0 ∷ 2 ∷ []) 0 ≡ Ok (record { host = None; members = []; permits = None }, 10)
unfolding nests_at steps_at attribute_at read_at passed_at window_at first_row plain has_no_lone_surrogate lib.Utf8.encode parts
host_too_early = refl

second_host : nests_at 55 0x21 classes (0 ∷ 2 ∷ 0 ∷ 3 ∷ 0 ∷ 0 ∷ 0 ∷ 2 ∷ 0 ∷ 2 ∷ 0 ∷ 3 ∷ []) 0 ≡ Err (faults.Attribute 10)
unfolding nests_at steps_at attribute_at read_at passed_at window_at meaning_at host_at named_in first_row plain has_no_lone_surrogate lib.Utf8.encode parts
second_host = refl

final_permits : nests_at 61 0x31 classes (0 ∷ 1 ∷ 0 ∷ 4 ∷ []) 0 ≡ Err (faults.Attribute 2)
unfolding nests_at steps_at attribute_at read_at passed_at window_at first_row plain has_no_lone_surrogate lib.Utf8.encode parts
final_permits = refl

members_beside_a_host : may_follow 0x21 (attributes.Host (codes "p/A") ∷ []) forms.Members ≡ false
members_beside_a_host = refl

no_components : record_at classes 7 (0 ∷ 0 ∷ []) 0 ≡ Ok tt
unfolding record_at components_at each_component_at steps_at
no_components = refl

bytes_behind_components : record_at classes 7 (0 ∷ 0 ∷ 0 ∷ []) 0 ≡ Err (faults.Attribute 7)
unfolding record_at components_at each_component_at steps_at
bytes_behind_components = refl

component_without_a_name : record_at classes 7 (0 ∷ 1 ∷ 0 ∷ 9 ∷ []) 0 ≡ Err (faults.Attribute 7)
unfolding record_at components_at each_component_at component_at steps_at named_in
component_without_a_name = refl

-- ---- files of which more is read

read_past_the_cut : IsReadPast 53 (class_of (front 53 5 ++ (middle 0 4 ++ tables)))
unfolding class_of front_at class_pool_at flags_at named_at super_at interfaces_at fields_at methods_at nests_at steps_at each_at pool_at entry_at content_at text_at bits_at units_read units_from unit_at plain has_no_lone_surrogate lib.Utf8.encode parts
read_past_the_cut = tt

cut_at_the_place : IsReadPast {C = Class} 53 (Err (faults.Short 53)) → ⊥
cut_at_the_place lt = omega (arith, lt)

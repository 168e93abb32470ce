-- The file that is written for a class (JVMS 4.1): each name by the least right index, and no attributes but those that say what the class is.
use Rattle.std.specs.Prelude.{ℕ, zero, suc, ◌<◌, List, [], ◌∷◌, ◌++◌, length, map, Option, None, Some, Bool, false, codes, ⊤, if◌then◌else◌}
use Rattle.std.specs.List.{flat_map, AllByRecursion}
use Rattle.std.specs.Option.{option_map_or}
use Rattle.jl_logic.specs.Order.{is_text}
use Rattle.jl_reading.specs.Reading.{two, four, counted}
use Rattle.jl_pool.specs.declared.entry.Entry.{Entry}
use Rattle.jl_pool.specs.Pool.{text_of, paired_text, class_named}
use Rattle.jl_pool.specs.Spelling.{entry_bytes, EntryFits}
use Rattle.jl_class.specs.declared.member.CodeBytes.{CodeBytes}
use Rattle.jl_class.specs.declared.member.FieldDecl.{FieldDecl}
use Rattle.jl_class.specs.declared.member.MethodDecl.{MethodDecl}
use Rattle.jl_optable.specs.declared.attributes.AttrForm.{AttrForm}
use Rattle.jl_optable.specs.declared.attributes.AttrForm.TheVariants as forms
use Rattle.jl_optable.specs.Attributes.{name_of}
use Rattle.jl_classfile.specs.Front.{front_bytes}
use Rattle.jl_class.specs.Classes.{Class}
use Rattle.jl_class.specs.Spelling.{Member, Parts, member_bytes, code_bytes, CodeFits}
use Rattle.jl_classfile.specs.Spelling.{Attribute, attribute_bytes}

-- ---- indices

abbrev pub is_named : Option (List ℕ) → List ℕ → Bool
is_named found name = option_map_or (λ text. is_text name text) found false

-- what was found before, or else this index where it is right
abbrev pub or_here : Option ℕ → Bool → ℕ → Option ℕ
or_here (Some i) is_right index = Some i
or_here None is_right index = if is_right then Some index else None

-- the least index below a count at which a name stands
unfoldable pub first_of : (ℕ → Option (List ℕ)) → List ℕ → ℕ → Option ℕ
first_of named name zero = None
first_of named name (suc n) = or_here (first_of named name n) (is_named (named n) name) n

abbrev pub or_zero : Option ℕ → ℕ
or_zero None = 0
or_zero (Some i) = i

-- the least index of a pool at which a name stands, or 0
abbrev pub index_by : (List Entry → ℕ → Option (List ℕ)) → List Entry → List ℕ → ℕ
index_by named pool name = or_zero (first_of (named pool) name (length pool))

abbrev pub text_index : List Entry → List ℕ → ℕ
text_index = index_by paired_text

abbrev pub class_index : List Entry → List ℕ → ℕ
class_index = index_by class_named

-- the index of a superclass, 0 for none
abbrev pub super_index : List Entry → Option (List ℕ) → ℕ
super_index pool None = 0
super_index pool (Some name) = class_index pool name

-- the index of the name of an attribute
abbrev pub attribute_index : List Entry → List ℕ → ℕ
attribute_index = index_by text_of

-- ---- attributes (JVMS 4.7)

abbrev pub named_attribute : List Entry → List ℕ → List ℕ → Attribute
named_attribute pool name content = record { index = attribute_index pool name; content = content }

-- one attribute for what is there
abbrev pub optional : {V : Type 0} → (V → Attribute) → Option V → List Attribute
optional one None = []
optional one (Some v) = one v ∷ []

abbrev pub constant_attribute : List Entry → ℕ → Attribute
constant_attribute pool i = named_attribute pool (codes "ConstantValue") (two i)

abbrev pub frames_attribute : List Entry → List ℕ → Attribute
frames_attribute pool frames = named_attribute pool (codes "StackMapTable") frames

abbrev pub code_content : List Entry → CodeBytes → List ℕ
code_content pool c = code_bytes c (optional (frames_attribute pool) c.frames)

abbrev pub code_attribute : List Entry → CodeBytes → Attribute
code_attribute pool c = named_attribute pool (codes "Code") (code_content pool c)

-- ---- attributes of a class (JVMS 4.7.28, 4.7.29, 4.7.31)

abbrev pub host_attribute : List Entry → List ℕ → Attribute
host_attribute pool name = named_attribute pool (name_of forms.Host) (two (class_index pool name))

-- an attribute that lists classes
abbrev pub classes_attribute : List Entry → AttrForm → List (List ℕ) → Attribute
classes_attribute pool form names = named_attribute pool (name_of form) (counted two (map (class_index pool) names))

-- a list, where there is anything in it
abbrev pub unless_none : {A : Type 0} → List A → Option (List A)
unless_none [] = None
unless_none (x ∷ xs) = Some (x ∷ xs)

abbrev pub nest_attributes : List Entry → Class → List Attribute
nest_attributes pool c =
    optional (host_attribute pool) c.nest_host
    ++ (optional (classes_attribute pool forms.Members) (unless_none c.nest_members) ++ optional (classes_attribute pool forms.Permits) c.permits)

-- ---- members (JVMS 4.5, 4.6)

abbrev pub field_member : List Entry → FieldDecl → Member
field_member pool f = record {
  flags = f.flags;
  name = text_index pool f.name;
  desc = text_index pool f.desc;
  attributes = optional (constant_attribute pool) f.constant;
}

abbrev pub method_member : List Entry → MethodDecl → Member
method_member pool m = record {
  flags = m.flags;
  name = text_index pool m.name;
  desc = text_index pool m.desc;
  attributes = optional (code_attribute pool) m.code;
}

-- ---- the file

abbrev pub parts_of : Class → Parts
parts_of c = record {
  this = class_index c.pool c.name;
  super = super_index c.pool c.super_name;
  interfaces = map (class_index c.pool) c.interfaces;
  fields = map (field_member c.pool) c.fields;
  methods = map (method_member c.pool) c.methods;
  attributes = nest_attributes c.pool c;
}

abbrev pub front_of : Class → List ℕ
front_of c = front_bytes c.major c.minor

abbrev pub pool_bytes : List Entry → List ℕ
pool_bytes pool = two (length pool) ++ flat_map entry_bytes pool

-- from the flags of the class to its interfaces
abbrev pub names_bytes : List Entry → Class → List ℕ
names_bytes pool c =
    two c.flags ++ (two (class_index pool c.name) ++ (two (super_index pool c.super_name)
    ++ counted (λ name. two (class_index pool name)) c.interfaces))

-- its fields, methods and attributes
abbrev pub members_bytes : List Entry → Class → List ℕ
members_bytes pool c =
    counted (λ f. member_bytes (field_member pool f)) c.fields
    ++ (counted (λ m. member_bytes (method_member pool m)) c.methods ++ counted attribute_bytes (nest_attributes pool c))

abbrev pub file_bytes : Class → List ℕ
file_bytes c = front_of c ++ (pool_bytes c.pool ++ (names_bytes c.pool c ++ members_bytes c.pool c))

-- ---- what fits a file

abbrev pub IsShortCode : List Entry → Option CodeBytes → Type 0
IsShortCode pool None = ⊤
IsShortCode pool (Some c) = CodeFits c × (length (code_content pool c) < 4294967296)

abbrev pub IsShortList : Option (List (List ℕ)) → Type 0
IsShortList None = ⊤
IsShortList (Some names) = length names < 65536

-- the numbers of a class with this pool fit their bytes
pub record IsWritable (pool : List Entry) (c : Class) : Type 0 where
  pub few : length pool < 65536
  pub entries : AllByRecursion EntryFits pool
  pub interfaces : length c.interfaces < 65536
  pub fields : length c.fields < 65536
  pub methods : length c.methods < 65536
  pub codes : AllByRecursion (λ (m : MethodDecl). IsShortCode pool m.code) c.methods
  pub nest_members : length c.nest_members < 65536
  pub permits : IsShortList c.permits

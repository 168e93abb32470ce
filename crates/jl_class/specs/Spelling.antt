-- The spelling of a class file: a relation between its bytes and a class (JVMS 4.1).
use Rattle.std.specs.Prelude.{◌≡◌, ℕ, ◌<◌, List, [], ◌++◌, length, position, Option, None, Some, IsTrue, Bool, true, false, is_some, ◌&&◌, ⊤}
use Rattle.std.specs.List.{AllByRecursion}
use Rattle.jl_logic.specs.Lists.{Match}
use Rattle.jl_reading.specs.Reading.{counted, Stands, two}
use Rattle.jl_prim.specs.declared.declaration.Handler.{Handler}
use Rattle.jl_names.specs.Names.{names_a_field}
use Rattle.jl_optable.specs.declared.attributes.AttrForm.{AttrForm}
use Rattle.jl_optable.specs.declared.attributes.AttrForm.TheVariants as forms
use Rattle.jl_optable.specs.declared.attributes.Site.TheVariants as sites
use Rattle.jl_optable.specs.Attributes.{attribute_form}
use Rattle.jl_pool.specs.declared.entry.Entry.{Entry}
use Rattle.jl_pool.specs.Pool.{text_that, class_named}
use Rattle.jl_pool.specs.Spelling.{StandsPool}
use Rattle.jl_classfile.specs.Front.{is_version, front_bytes}
use Rattle.jl_classfile.specs.Spelling.{Attribute, AreAttributes, AtMostOne, HasName, IsTable, attribute_bytes, contents, is_some_that, measured}
use Rattle.jl_class.specs.declared.member.CodeBytes.{CodeBytes}
use Rattle.jl_class.specs.declared.member.FieldDecl.{FieldDecl}
use Rattle.jl_class.specs.declared.member.MethodDecl.{MethodDecl}
use Rattle.jl_class.specs.Classes.{Class}
use Rattle.jl_class.specs.Meaning.{is_interface, is_final, are_class_flags, are_field_flags, are_method_flags, has_code, super_named, may_extend, is_of_modules, names_method_with, describes_a_field, describes_method_with, field_key, method_key, sets_field, names_constant_value, names_code, names_frames, is_form}

-- ---- the parts of a file, by numbers

-- a field or a method
pub record Member : Type 0 where
  pub flags : ℕ
  pub name : ℕ
  pub desc : ℕ
  pub attributes : List Attribute

-- the parts of a file behind its pool, where flags are the class's own
pub record Parts : Type 0 where
  pub this : ℕ
  pub super : ℕ
  pub interfaces : List ℕ
  pub fields : List Member
  pub methods : List Member
  pub attributes : List Attribute

-- ---- their bytes

abbrev pub member_bytes : Member → List ℕ
member_bytes m = two m.flags ++ (two m.name ++ (two m.desc ++ counted attribute_bytes m.attributes))

abbrev pub handler_bytes : Handler → List ℕ
handler_bytes h = two h.start ++ (two h.end ++ (two h.target ++ two h.catch_type))

-- the content of a Code attribute, with its attributes (JVMS 4.7.3)
abbrev pub code_bytes : CodeBytes → List Attribute → List ℕ
code_bytes c attributes =
    two c.max_stack ++ (two c.max_locals ++ (measured c.code ++ (counted handler_bytes c.handlers ++ counted attribute_bytes attributes)))

-- from the flags of the class to the end of the file
abbrev pub back_bytes : ℕ → Parts → List ℕ
back_bytes flags p =
    two flags ++ (two p.this ++ (two p.super ++ (counted two p.interfaces
    ++ (counted member_bytes p.fields ++ (counted member_bytes p.methods ++ counted attribute_bytes p.attributes)))))

-- ---- contents of attributes (JVMS 4.7)

-- the content of a ConstantValue attribute (JVMS 4.7.2)
abbrev pub IsConstant : ℕ → List ℕ → List Entry → List ℕ → ℕ → Type 0
IsConstant flags desc pool content i = (i < 65536) × (content ≡ two i) × IsTrue (sets_field flags desc pool i)

-- the content of a StackMapTable attribute is kept as it is (JVMS 4.7.4)
abbrev pub IsFrames : List ℕ → List ℕ → Type 0
IsFrames content frames = content ≡ frames

abbrev pub HandlerFits : Handler → Type 0
HandlerFits h = (h.start < 65536) × (h.end < 65536) × (h.target < 65536) × (h.catch_type < 65536)

-- the numbers of a Code attribute fit their bytes
pub record CodeFits (c : CodeBytes) : Type 0 where
  pub max_stack : c.max_stack < 65536
  pub max_locals : c.max_locals < 65536
  pub code : length c.code < 4294967296
  pub few : length c.handlers < 65536
  pub handlers : AllByRecursion HandlerFits c.handlers

-- the content of a Code attribute
pub record IsCode (pool : List Entry) (content : List ℕ) (c : CodeBytes) : Type 0 where
  pub attributes : List Attribute
  pub is : content ≡ code_bytes c attributes
  pub fits : CodeFits c
  pub fit : AreAttributes pool attributes
  pub frames : AtMostOne IsFrames (contents pool names_frames attributes) c.frames

-- ---- members (JVMS 4.5, 4.6)

-- the numbers of a member fit their bytes, and its attributes have names
pub record MemberFits (pool : List Entry) (m : Member) : Type 0 where
  pub flags : m.flags < 65536
  pub name : m.name < 65536
  pub desc : m.desc < 65536
  pub attributes : AreAttributes pool m.attributes

-- a field of a class or of an interface
pub record IsField (in_interface : Bool) (pool : List Entry) (m : Member) (f : FieldDecl) : Type 0 where
  pub fits : MemberFits pool m
  pub flags : f.flags ≡ m.flags
  pub flagged : IsTrue (are_field_flags in_interface f.flags)
  pub named : text_that names_a_field pool m.name ≡ Some f.name
  pub described : text_that describes_a_field pool m.desc ≡ Some f.desc
  pub constant : AtMostOne (IsConstant f.flags f.desc pool) (contents pool names_constant_value m.attributes) f.constant

-- a method, which has code exactly where it is neither native nor abstract
pub record IsMethod (pool : List Entry) (m : Member) (d : MethodDecl) : Type 0 where
  pub fits : MemberFits pool m
  pub flags : d.flags ≡ m.flags
  pub flagged : IsTrue (are_method_flags d.flags)
  pub named : text_that (names_method_with d.flags) pool m.name ≡ Some d.name
  pub described : text_that (describes_method_with d.name) pool m.desc ≡ Some d.desc
  pub code : AtMostOne (IsCode pool) (contents pool names_code m.attributes) d.code
  pub has : is_some d.code ≡ has_code d.flags

-- ---- what reading has shown of members

-- the constant of a field is one that sets it
abbrev pub IsSet : ℕ → List ℕ → List Entry → Option ℕ → Type 0
IsSet flags desc pool None = ⊤
IsSet flags desc pool (Some i) = IsTrue (sets_field flags desc pool i)

-- a field of a class or of an interface is right in itself
pub record IsRightField (in_interface : Bool) (pool : List Entry) (f : FieldDecl) : Type 0 where
  pub flagged : IsTrue (are_field_flags in_interface f.flags)
  pub named : IsTrue (names_a_field f.name)
  pub described : IsTrue (describes_a_field f.desc)
  pub constant : IsSet f.flags f.desc pool f.constant

-- the numbers of code fit their bytes
abbrev pub FitsWhereThere : Option CodeBytes → Type 0
FitsWhereThere None = ⊤
FitsWhereThere (Some c) = CodeFits c

-- a method is right in itself, and has code exactly where it is neither native nor abstract
pub record IsRightMethod (d : MethodDecl) : Type 0 where
  pub flagged : IsTrue (are_method_flags d.flags)
  pub named : IsTrue (names_method_with d.flags d.name)
  pub described : IsTrue (describes_method_with d.name d.desc)
  pub has : is_some d.code ≡ has_code d.flags
  pub fits : FitsWhereThere d.code

-- ---- attributes of a class (JVMS 4.7.28 to 4.7.31)

-- a component of a record (JVMS 4.7.30)
pub record Component : Type 0 where
  pub name : ℕ
  pub desc : ℕ
  pub attributes : List Attribute

abbrev pub component_bytes : Component → List ℕ
component_bytes c = two c.name ++ (two c.desc ++ counted attribute_bytes c.attributes)

-- it has the name and the type of a field
pub record IsComponent (pool : List Entry) (c : Component) : Type 0 where
  pub named : (name : List ℕ) × HasName (text_that names_a_field pool) c.name name
  pub described : (desc : List ℕ) × HasName (text_that describes_a_field pool) c.desc desc
  pub attributes : AreAttributes pool c.attributes

-- the content of a Record attribute, of which nothing is kept
pub record IsRecord (pool : List Entry) (content : List ℕ) (kept : ⊤) : Type 0 where
  pub components : List Component
  pub is : content ≡ counted component_bytes components
  pub few : length components < 65536
  pub each : AllByRecursion (IsComponent pool) components

-- the content of a NestHost attribute
abbrev pub IsHost : List Entry → List ℕ → List ℕ → Type 0
IsHost pool content name = (i : ℕ) × (content ≡ two i) × HasName (class_named pool) i name

-- the content of a NestMembers or a PermittedSubclasses attribute
pub record AreClasses (pool : List Entry) (content : List ℕ) (names : List (List ℕ)) : Type 0 where
  pub indices : List ℕ
  pub is : content ≡ counted two indices
  pub few : length indices < 65536
  pub each : Match (HasName (class_named pool)) indices names

-- the names of the attributes of a form that are read in a class of a major version
abbrev pub names_form : ℕ → AttrForm → List ℕ → Bool
names_form major form name = is_some_that (is_form form) (attribute_form sites.Class major name)

abbrev pub or_nothing : {A : Type 0} → Option (List A) → List A
or_nothing None = []
or_nothing (Some xs) = xs

-- The attributes declare the nest of the class and who may extend it. A host is not beside members, and a final class permits nobody.
pub record HaveNests (c : Class) (attributes : List Attribute) : Type 0 where
  pub host : AtMostOne (IsHost c.pool) (contents c.pool (names_form c.major forms.Host) attributes) c.nest_host
  pub members : Option (List (List ℕ))
  pub listed : AtMostOne (AreClasses c.pool) (contents c.pool (names_form c.major forms.Members) attributes) members
  pub members_are : c.nest_members ≡ or_nothing members
  pub apart : is_some c.nest_host && is_some members ≡ false
  pub record_kept : Option ⊤
  pub components : AtMostOne (IsRecord c.pool) (contents c.pool (names_form c.major forms.Components) attributes) record_kept
  pub permits : AtMostOne (AreClasses c.pool) (contents c.pool (names_form c.major forms.Permits) attributes) c.permits
  pub extended : is_some c.permits && is_final c.flags ≡ false

-- ---- the whole file

-- the parts behind the pool declare the class
pub record Declares (p : Parts) (c : Class) : Type 0 where
  pub flags : c.flags < 65536
  pub flagged : IsTrue (are_class_flags c.flags)
  pub this : HasName (class_named c.pool) p.this c.name
  pub super : HasName (super_named c.pool) p.super c.super_name
  pub extends : IsTrue (may_extend c.flags c.name c.super_name)
  pub few : length p.interfaces < 65536
  pub interfaces : Match (HasName (class_named c.pool)) p.interfaces c.interfaces
  pub fields : IsTable (IsField (is_interface c.flags) c.pool) field_key p.fields c.fields
  pub methods : IsTable (IsMethod c.pool) method_key p.methods c.methods
  pub attributes : AreAttributes c.pool p.attributes
  pub nests : HaveNests c p.attributes

-- The bytes are a class file that declares c.
pub record IsClass (bytes : List ℕ) (c : Class) : Type 0 where
  pub parts : Parts
  pub pool_end : ℕ
  pub minor : c.minor < 65536
  pub version : is_version c.major c.minor ≡ true
  pub front : Stands bytes 0 (front_bytes c.major c.minor) 8
  pub pool : StandsPool bytes 8 c.pool pool_end
  pub inside : position is_of_modules c.pool ≡ None
  pub back : Stands bytes pool_end (back_bytes c.flags parts) (length bytes)
  pub declares : Declares parts c

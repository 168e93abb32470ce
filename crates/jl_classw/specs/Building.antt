-- Making a class: what each call adds to it, or which table has no room for it (JVMS 4.1, 4.4 to 4.7).
use Rattle.std.specs.Prelude.{ℕ, ◌+◌, nat_lt, List, [], ◌∷◌, ◌++◌, length, position, Option, None, Some, Result, Ok, Err, Bool, true, false, not, ◌&&◌, ◌==◌, codes, is_some, is_ok, if◌then◌else◌}
use Rattle.std.specs.Int.{cast_unsigned, w32, w64}
use Rattle.jl_logic.specs.Order.{is_text}
use Rattle.jl_reading.specs.Reading.{◌>>=◌}
use Rattle.jl_names.specs.Utf16.{utf16}
use Rattle.jl_optable.specs.declared.attributes.AttrForm.{AttrForm}
use Rattle.jl_optable.specs.declared.attributes.AttrForm.TheVariants as forms
use Rattle.jl_optable.specs.declared.attributes.Site.TheVariants as sites
use Rattle.jl_optable.specs.Attributes.{attribute_form, name_of}
use Rattle.jl_pool.specs.declared.entry.Entry.{Entry}
use Rattle.jl_pool.specs.declared.entry.Entry.TheVariants as entries
use Rattle.jl_pool.specs.Pool.{is_wide}
use Rattle.jl_class.specs.declared.member.CodeBytes.{CodeBytes}
use Rattle.jl_class.specs.declared.fault.ClassFault.{ClassFault}
use Rattle.jl_class.specs.Classes.{Class}
use Rattle.jl_class.specs.Meaning.{is_final}
use Rattle.jl_class.specs.Reading.{host_at, classes_at}
use Rattle.jl_classw.specs.declared.fault.WriteFault.{WriteFault}
use Rattle.jl_classw.specs.declared.fault.WriteFault.TheVariants as faults
use Rattle.jl_classw.specs.declared.entry.Constant.{Constant}
use Rattle.jl_classw.specs.declared.entry.Constant.TheVariants as constants
use Rattle.jl_classw.specs.declared.entry.MemberKind.{MemberKind}
use Rattle.jl_classw.specs.declared.entry.MemberKind.TheVariants as kinds
use Rattle.jl_classw.specs.declared.entry.NewEntry.{NewEntry}
use Rattle.jl_classw.specs.declared.entry.NewEntry.TheVariants as news

-- ---- entries of a pool (JVMS 4.4)

-- two entries of one kind, of those that are made, say the same
abbrev pub is_same : Entry → Entry → Bool
is_same (entries.Utf8 a) (entries.Utf8 b) = is_text a b
is_same (entries.Integer a) (entries.Integer b) = a == b
is_same (entries.Long a) (entries.Long b) = a == b
is_same (entries.Class a) (entries.Class b) = a == b
is_same (entries.String a) (entries.String b) = a == b
is_same (entries.Field a b) (entries.Field c d) = (a == c) && (b == d)
is_same (entries.Method a b) (entries.Method c d) = (a == c) && (b == d)
is_same (entries.InterfaceMethod a b) (entries.InterfaceMethod c d) = (a == c) && (b == d)
is_same (entries.NameAndType a b) (entries.NameAndType c d) = (a == c) && (b == d)
is_same _ _ = false

-- the entry, with the unused index behind a Long or a Double
abbrev pub spaced : Entry → List Entry
spaced e = if is_wide e then e ∷ entries.Unused ∷ [] else e ∷ []

-- a table that has no room for more
abbrev pub too_many : {A : Type 0} → List ℕ → Result A WriteFault
too_many table = Err (faults.TooMany table)

abbrev pub at_end : List Entry → Entry → Result (List Entry × ℕ) WriteFault
at_end pool e = if nat_lt 65535 (length pool + length (spaced e)) then too_many (codes "pool") else Ok (pool ++ spaced e, length pool)

abbrev pub there_or : Option ℕ → List Entry → Entry → Result (List Entry × ℕ) WriteFault
there_or (Some i) pool e = Ok (pool, i)
there_or None pool e = at_end pool e

-- The pool with an entry, at the end where it is not there, and the index of the entry.
unfoldable pub entered : List Entry → Entry → Result (List Entry × ℕ) WriteFault
entered pool e = there_or (position (is_same e) pool) pool e

abbrev pub text_entered : List Entry → List ℕ → Result (List Entry × ℕ) WriteFault
text_entered pool text = entered pool (entries.Utf8 (utf16 text))

-- an entry behind those that it needs
unfoldable pub class_entered : List Entry → List ℕ → Result (List Entry × ℕ) WriteFault
class_entered pool name = do
  text ← text_entered pool name
  entered text.0 (entries.Class text.1)

unfoldable pub string_entered : List Entry → List ℕ → Result (List Entry × ℕ) WriteFault
string_entered pool units = do
  text ← entered pool (entries.Utf8 units)
  entered text.0 (entries.String text.1)

unfoldable pub name_and_type_entered : List Entry → List ℕ → List ℕ → Result (List Entry × ℕ) WriteFault
name_and_type_entered pool name desc = do
  first ← text_entered pool name
  second ← text_entered first.0 desc
  entered second.0 (entries.NameAndType first.1 second.1)

abbrev pub member_entry : MemberKind → ℕ → ℕ → Entry
member_entry kinds.Field class name = entries.Field class name
member_entry kinds.Method class name = entries.Method class name
member_entry kinds.InterfaceMethod class name = entries.InterfaceMethod class name

unfoldable pub member_entered : List Entry → MemberKind → List ℕ → List ℕ → List ℕ → Result (List Entry × ℕ) WriteFault
member_entered pool kind class name desc = do
  owner ← class_entered pool class
  member ← name_and_type_entered owner.0 name desc
  entered member.0 (member_entry kind owner.1 member.1)

-- what an entry of this tag refers to, which is 9, 10 or 11 (JVMS 4.4-A)
abbrev pub kind_of : ℕ → MemberKind
kind_of tag = if tag == 9 then kinds.Field else if tag == 10 then kinds.Method else kinds.InterfaceMethod

abbrev pub constant_entered : List Entry → Constant → Result (List Entry × ℕ) WriteFault
constant_entered pool (constants.Int n) = entered pool (entries.Integer (cast_unsigned w32 n))
constant_entered pool (constants.Long n) = entered pool (entries.Long (cast_unsigned w64 n))
constant_entered pool (constants.Text units) = string_entered pool units

abbrev pub new_entered : List Entry → NewEntry → Result (List Entry × ℕ) WriteFault
new_entered pool (news.Class name) = class_entered pool name
new_entered pool (news.Member tag class name desc) = member_entered pool (kind_of tag) class name desc
new_entered pool (news.Constant constant) = constant_entered pool constant

-- ---- what members need

abbrev pub super_entered : List Entry → Option (List ℕ) → Result (List Entry × ℕ) WriteFault
super_entered pool None = Ok (pool, 0)
super_entered pool (Some name) = class_entered pool name

-- the constant of a field, behind the name of its attribute (JVMS 4.7.2)
unfoldable pub some_constant_entered : List Entry → Constant → Result (List Entry × Option ℕ) WriteFault
some_constant_entered pool constant = do
  name ← text_entered pool (codes "ConstantValue")
  value ← constant_entered name.0 constant
  Ok (value.0, Some value.1)

abbrev pub optional_entered : List Entry → Option Constant → Result (List Entry × Option ℕ) WriteFault
optional_entered pool None = Ok (pool, None)
optional_entered pool (Some constant) = some_constant_entered pool constant

-- the pool with the name of an attribute
unfoldable pub attribute_entered : List Entry → List ℕ → Result (List Entry) WriteFault
attribute_entered pool name = do
  text ← text_entered pool name
  Ok text.0

abbrev pub frames_entered : List Entry → Option (List ℕ) → Result (List Entry) WriteFault
frames_entered pool None = Ok pool
frames_entered pool (Some frames) = attribute_entered pool (codes "StackMapTable")

-- the names of the attributes of a method (JVMS 4.7.3, 4.7.4)
unfoldable pub some_code_entered : List Entry → CodeBytes → Result (List Entry) WriteFault
some_code_entered pool code = do
  named ← attribute_entered pool (codes "Code")
  frames_entered named code.frames

abbrev pub code_entered : List Entry → Option CodeBytes → Result (List Entry) WriteFault
code_entered pool None = Ok pool
code_entered pool (Some code) = some_code_entered pool code

-- ---- the calls

-- a class that is being made, and how many attributes it was given
pub record Making : Type 0 where
  pub class : Class
  pub attributes : ℕ

-- what a call makes of the class alone
abbrev pub of_class : Making → Result Class WriteFault → Result Making WriteFault
of_class b made = made >>= λ c. Ok (record b { class = c })

-- a superclass, of which an empty name is none
abbrev pub unless_empty : List ℕ → Option (List ℕ)
unless_empty [] = None
unless_empty (byte ∷ bytes) = Some (byte ∷ bytes)

-- a class with these parts and no members, which has minor version 0
unfoldable pub new_class : ℕ → ℕ → List ℕ → Option (List ℕ) → Result Making WriteFault
new_class major flags name super_name = do
  this ← class_entered (entries.Unused ∷ []) name
  super ← super_entered this.0 super_name
  Ok (record {
    class = record {
      major = major;
      minor = 0;
      flags = flags;
      name = name;
      super_name = super_name;
      interfaces = [];
      fields = [];
      methods = [];
      nest_host = None;
      nest_members = [];
      permits = None;
      pool = super.0;
    };
    attributes = 0;
  })

-- the class with an entry in its pool, and the index of the entry
unfoldable pub with_entry : Making → NewEntry → Result (Making × ℕ) WriteFault
with_entry b e = do
  made ← new_entered b.class.pool e
  Ok (record b { class = record (b.class) { pool = made.0 } }, made.1)

unfoldable pub with_interface : Class → List ℕ → Result Class WriteFault
with_interface c name = if nat_lt 65534 (length c.interfaces) then too_many (codes "interfaces") else (do
  made ← class_entered c.pool name
  Ok (record c { interfaces = c.interfaces ++ name ∷ []; pool = made.0 }))

unfoldable pub with_field : Class → ℕ → List ℕ → List ℕ → Option Constant → Result Class WriteFault
with_field c flags name desc constant = if nat_lt 65534 (length c.fields) then too_many (codes "fields") else (do
  named ← attribute_entered c.pool name
  described ← attribute_entered named desc
  value ← optional_entered described constant
  Ok (record c { fields = c.fields ++ (record { flags = flags; name = name; desc = desc; constant = value.1 }) ∷ []; pool = value.0 }))

-- more handlers than two bytes count (JVMS 4.7.3)
abbrev pub has_many_handlers : Option CodeBytes → Bool
has_many_handlers None = false
has_many_handlers (Some code) = nat_lt 65535 (length code.handlers)

unfoldable pub with_method : Class → ℕ → List ℕ → List ℕ → Option CodeBytes → Result Class WriteFault
with_method c flags name desc code = if nat_lt 65534 (length c.methods) then too_many (codes "methods") else if has_many_handlers code then too_many (codes "handlers") else (do
  named ← attribute_entered c.pool name
  described ← attribute_entered named desc
  coded ← code_entered described code
  Ok (record c { methods = c.methods ++ (record { flags = flags; name = name; desc = desc; code = code }) ∷ []; pool = coded }))

-- ---- attributes of a class (JVMS 4.7.28 to 4.7.31)

-- No nest is declared yet: neither its host nor members.
abbrev pub has_no_nest : Class → Bool
has_no_nest c = not (is_some c.nest_host) && length c.nest_members == 0

-- A class that declares a host or members is given neither, and one whose subclasses are listed, or which is final, no list of them.
abbrev pub may_declare : Class → AttrForm → Bool
may_declare c forms.Host = has_no_nest c
may_declare c forms.Members = has_no_nest c
may_declare c forms.Permits = not (is_some c.permits) && not (is_final c.flags)
may_declare c _ = true

-- The class with what a content declares, whose indices are those of its pool. Nothing of the components of a record is kept.
abbrev pub declaring : Class → AttrForm → List ℕ → Result Class ClassFault
declaring c forms.Host content = host_at c.pool 0 content 0 >>= λ name. Ok (record c { nest_host = Some name })
declaring c forms.Members content = classes_at c.pool 0 content 0 >>= λ names. Ok (record c { nest_members = names })
declaring c forms.Permits content = classes_at c.pool 0 content 0 >>= λ names. Ok (record c { permits = Some names })
declaring c _ content = Ok c

abbrev pub may_have_form : Class → List ℕ → Option AttrForm → Bool
may_have_form c content None = true
may_have_form c content (Some form) = may_declare c form && is_ok (declaring c form content)

-- The class may be given the attribute: one that is not read in a class of its version, or one that may stand there and whose content is right.
abbrev pub may_be_given : Class → List ℕ → List ℕ → Bool
may_be_given c name content = may_have_form c content (attribute_form sites.Class c.major name)

abbrev pub or_same : Class → Result Class ClassFault → Class
or_same c (Ok d) = d
or_same c (Err f) = c

-- the class with the name of an attribute in its pool
abbrev pub with_name : Class → List ℕ → Result Class WriteFault
with_name c name = attribute_entered c.pool name >>= λ named. Ok (record c { pool = named })

-- the class with an attribute of a form, whose name is entered
unfoldable pub with_form : Class → AttrForm → List ℕ → Result Class WriteFault
with_form c form content = do
  named ← attribute_entered c.pool (name_of form)
  Ok (record (or_same c (declaring c form content)) { pool = named })

-- an attribute that is not read in a class of its version is no part of the class
abbrev pub with_read : Class → List ℕ → Option AttrForm → Result Class WriteFault
with_read c content None = Ok c
with_read c content (Some form) = with_form c form content

-- Each attribute that is given counts, also one that is no part of the class.
unfoldable pub with_attribute : Making → List ℕ → List ℕ → Result Making WriteFault
with_attribute b name content = if nat_lt 65534 b.attributes then too_many (codes "attributes") else (do
  given ← with_read b.class content (attribute_form sites.Class b.class.major name)
  Ok (record { class = given; attributes = b.attributes + 1 }))

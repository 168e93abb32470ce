-- Reading a class file from left to right, with the first fault that is met (JVMS 4.1).
use Rattle.std.specs.Prelude.{ℕ, List, [], length, drop, map, Option, None, Some, Result, Ok, Err, Bool, true, false, not, ◌&&◌, ◌==◌, is_some, position, ⊤, if◌then◌else◌}
use Rattle.jl_reading.specs.Reading.{◌>>=◌, number_at, each_at, steps_at}
use Rattle.jl_prim.specs.declared.declaration.Handler.{Handler}
use Rattle.jl_names.specs.Names.{names_a_field}
use Rattle.jl_optable.specs.declared.attributes.AttrForm.{AttrForm}
use Rattle.jl_optable.specs.declared.attributes.AttrForm.TheVariants as forms
use Rattle.jl_optable.specs.declared.attributes.Site.TheVariants as sites
use Rattle.jl_optable.specs.Attributes.{attribute_form}
use Rattle.jl_pool.specs.declared.entry.Entry.{Entry}
use Rattle.jl_pool.specs.Pool.{text_that, class_named}
use Rattle.jl_pool.specs.Reading.{pool_at}
use Rattle.jl_classfile.specs.Front.{front_at}
use Rattle.jl_classfile.specs.Places.{content_at}
use Rattle.jl_classfile.specs.Attributes.{Reader, alone, attributes_at, first_of, first_that, may_begin, some_or}
use Rattle.jl_class.specs.declared.fault.ClassFault.{ClassFault}
use Rattle.jl_class.specs.declared.fault.ClassFault.TheVariants as faults
use Rattle.jl_class.specs.declared.member.CodeBytes.{CodeBytes}
use Rattle.jl_class.specs.declared.member.FieldDecl.{FieldDecl}
use Rattle.jl_class.specs.declared.member.MethodDecl.{MethodDecl}
use Rattle.jl_class.specs.declared.nests.ClassAttribute.{ClassAttribute}
use Rattle.jl_class.specs.declared.nests.ClassAttribute.TheVariants as attributes
use Rattle.jl_class.specs.declared.nests.Nests.{Nests}
use Rattle.jl_class.specs.Classes.{Class}
use Rattle.jl_class.specs.Faults.{short, cut_in, pool_or, name_or}
use Rattle.jl_class.specs.Meaning.{is_interface, are_class_flags, are_field_flags, are_method_flags, has_code, super_named, may_extend, is_of_modules, names_method_with, describes_a_field, describes_method_with, field_key, method_key, is_member_among, sets_field, names_constant_value, names_code, names_frames, may_follow}
use Rattle.jl_class.specs.Spelling.{or_nothing}

-- ---- up to the flags

-- the least index of an entry that only module declarations have is a fault
abbrev pub outside_or : Option ℕ → List Entry × ℕ → Result (List Entry × ℕ) ClassFault
outside_or None read = Ok read
outside_or (Some index) read = Err (faults.Pool index)

unfoldable pub class_pool_at : List ℕ → ℕ → Result (List Entry × ℕ) ClassFault
class_pool_at bytes at = do
  read ← pool_or (pool_at bytes at)
  outside_or (position is_of_modules read.0) read

-- ---- flags and names

-- flags that keep their rules
unfoldable pub flags_at : (ℕ → Bool) → List ℕ → ℕ → Result (ℕ × ℕ) ClassFault
flags_at are_right bytes at = do
  flags ← number_at short 2 bytes at
  if are_right flags.0 then Ok flags else Err (faults.Flags at)

-- an index, as what it names
unfoldable pub named_at : {A : Type 0} → (ℕ → Option A) → List ℕ → ℕ → Result (A × ℕ) ClassFault
named_at named bytes at = do
  i ← number_at short 2 bytes at
  name ← name_or at (named i.0)
  Ok (name, i.1)

-- the superclass of a class with these flags and this name
unfoldable pub super_at : ℕ → List ℕ → List Entry → List ℕ → ℕ → Result (Option (List ℕ) × ℕ) ClassFault
super_at flags name pool bytes at = do
  super ← named_at (super_named pool) bytes at
  if may_extend flags name super.0 then Ok super else Err (faults.Name at)

-- a count, and so many classes
unfoldable pub interfaces_at : List Entry → List ℕ → ℕ → Result (List (List ℕ) × ℕ) ClassFault
interfaces_at pool bytes at = do
  count ← number_at short 2 bytes at
  each_at (λ done. named_at (class_named pool) bytes) [] count.0 count.1

-- ---- attributes (JVMS 4.7)

-- What reads the attributes of a site: a wrong index of a name, and what may not stand, are faults at the name.
abbrev pub reader : {V : Type 0} → (List ℕ → Option AttrForm) → (ℕ → ℕ → ClassFault) → (List V → AttrForm → Bool) → (AttrForm → ℕ → List ℕ → ℕ → Result V ClassFault) → Reader AttrForm V ClassFault
reader form cut may_stand meaning = record {
  form = form;
  may_stand = may_stand;
  unnamed = λ at. faults.Attribute at;
  refused = λ at k. faults.Attribute at;
  cut = cut;
  meaning = meaning;
}

-- what is not whole in an attribute of the file is short at its place
abbrev pub in_file : ℕ → ℕ → ClassFault
in_file place at = short at

-- so many attributes, of which one of a name may stand
unfoldable pub one_at : {V : Type 0} → Reader AttrForm V ClassFault → (ℕ → ClassFault) → List Entry → List ℕ → ℕ → Result (Option V × ℕ) ClassFault
one_at r count_cut pool bytes at = do
  count ← number_at count_cut 2 bytes at
  read ← attributes_at r pool count.0 bytes count.1
  Ok (first_of read.0, read.1)

-- the value of a ConstantValue attribute (JVMS 4.7.2), which is all of the bytes from a place on
unfoldable pub constant_at : ℕ → List ℕ → List Entry → ℕ → List ℕ → ℕ → Result ℕ ClassFault
constant_at flags desc pool place bytes at = do
  i ← number_at (cut_in place) 2 bytes at
  if (i.1 == length bytes) && sets_field flags desc pool i.0 then Ok i.0 else Err (faults.Attribute place)

-- the constant of a field
abbrev pub constant_reader : ℕ → List ℕ → List Entry → Reader AttrForm ℕ ClassFault
constant_reader flags desc pool = reader (alone names_constant_value forms.ConstantIndex) in_file (may_begin true) (λ form. constant_at flags desc pool)

unfoldable pub constants_at : ℕ → List ℕ → List Entry → List ℕ → ℕ → Result (Option ℕ × ℕ) ClassFault
constants_at flags desc pool bytes at = one_at (constant_reader flags desc pool) short pool bytes at

-- a handler of a Code attribute (JVMS 4.7.3)
unfoldable pub handler_at : ℕ → List ℕ → ℕ → Result (Handler × ℕ) ClassFault
handler_at place bytes at = do
  start ← number_at (cut_in place) 2 bytes at
  end ← number_at (cut_in place) 2 bytes start.1
  target ← number_at (cut_in place) 2 bytes end.1
  catch_type ← number_at (cut_in place) 2 bytes target.1
  Ok (record { start = start.0; end = end.0; target = target.0; catch_type = catch_type.0 }, catch_type.1)

unfoldable pub handlers_at : ℕ → List ℕ → ℕ → Result (List Handler × ℕ) ClassFault
handlers_at place bytes at = do
  count ← number_at (cut_in place) 2 bytes at
  each_at (λ done. handler_at place bytes) [] count.0 count.1

-- a length in four bytes, and so many bytes
unfoldable pub long_text_at : ℕ → List ℕ → ℕ → Result (List ℕ × ℕ) ClassFault
long_text_at place bytes at = do
  content ← content_at (cut_in place) bytes at
  Ok (drop content.0.1 content.0.0, content.1)

-- the bytes of a StackMapTable attribute (JVMS 4.7.4), as they are
abbrev pub frames_at : ℕ → List ℕ → ℕ → Result (List ℕ) ClassFault
frames_at place bytes at = Ok (drop at bytes)

-- The attributes of a Code attribute. What is wrong in one of them is wrong at its name.
abbrev pub frames_reader : Reader AttrForm (List ℕ) ClassFault
frames_reader = reader (alone names_frames forms.Frames) cut_in (may_begin true) (λ form. frames_at)

abbrev pub inner_at : List Entry → ℕ → List ℕ → ℕ → Result (Option (List ℕ) × ℕ) ClassFault
inner_at pool place = one_at frames_reader (cut_in place) pool

-- a Code attribute (JVMS 4.7.3), which is all of the bytes from a place on
unfoldable pub code_at : List Entry → ℕ → List ℕ → ℕ → Result CodeBytes ClassFault
code_at pool place bytes at = do
  stack ← number_at (cut_in place) 2 bytes at
  locals ← number_at (cut_in place) 2 bytes stack.1
  code ← long_text_at place bytes locals.1
  handlers ← handlers_at place bytes code.1
  frames ← inner_at pool place bytes handlers.1
  if frames.1 == length bytes
      then Ok (record { max_stack = stack.0; max_locals = locals.0; code = code.0; handlers = handlers.0; frames = frames.0 })
      else Err (faults.Attribute place)

-- the code of a method
abbrev pub code_reader : ℕ → List Entry → Reader AttrForm CodeBytes ClassFault
code_reader flags pool = reader (alone names_code forms.CodeBody) in_file (may_begin (has_code flags)) (λ form. code_at pool)

unfoldable pub codes_at : ℕ → List Entry → List ℕ → ℕ → Result (Option CodeBytes × ℕ) ClassFault
codes_at flags pool bytes at = one_at (code_reader flags pool) short pool bytes at

-- ---- attributes of a class (JVMS 4.7.28 to 4.7.31)

-- all of a content was read
abbrev pub whole : {A : Type 0} → ℕ → List ℕ → A × ℕ → Result A ClassFault
whole place bytes x = if x.1 == length bytes then Ok x.0 else Err (faults.Attribute place)

-- an index in the attribute at a place, as what it names
unfoldable pub named_in : {A : Type 0} → ℕ → (ℕ → Option A) → List ℕ → ℕ → Result (A × ℕ) ClassFault
named_in place named bytes at = do
  i ← number_at (cut_in place) 2 bytes at
  name ← some_or (faults.Attribute place) (named i.0)
  Ok (name, i.1)

-- the host of a nest
unfoldable pub host_at : List Entry → ℕ → List ℕ → ℕ → Result (List ℕ) ClassFault
host_at pool place bytes at = named_in place (class_named pool) bytes at >>= whole place bytes

-- a count, and so many classes
unfoldable pub listed_at : List Entry → ℕ → List ℕ → ℕ → Result (List (List ℕ) × ℕ) ClassFault
listed_at pool place bytes at = do
  count ← number_at (cut_in place) 2 bytes at
  each_at (λ done. named_in place (class_named pool) bytes) [] count.0 count.1

unfoldable pub classes_at : List Entry → ℕ → List ℕ → ℕ → Result (List (List ℕ)) ClassFault
classes_at pool place bytes at = listed_at pool place bytes at >>= whole place bytes

-- the attributes of a component are passed over
abbrev pub passing_reader : Reader AttrForm ℕ ClassFault
passing_reader = reader (λ name. None) cut_in (λ done form. false) (λ form place bytes at. Err (faults.Attribute place))

-- a component of a record, of which nothing is kept
unfoldable pub component_at : List Entry → ℕ → List ℕ → ℕ → Result (⊤ × ℕ) ClassFault
component_at pool place bytes at = do
  name ← named_in place (text_that names_a_field pool) bytes at
  desc ← named_in place (text_that describes_a_field pool) bytes name.1
  others ← one_at passing_reader (cut_in place) pool bytes desc.1
  Ok (tt, others.1)

unfoldable pub each_component_at : List Entry → ℕ → List ℕ → ℕ → ℕ → Result (⊤ × ℕ) ClassFault
each_component_at pool place bytes count at = steps_at (λ done. component_at pool place bytes) count tt at

-- a count, and so many components
unfoldable pub components_at : List Entry → ℕ → List ℕ → ℕ → Result (⊤ × ℕ) ClassFault
components_at pool place bytes at = do
  count ← number_at (cut_in place) 2 bytes at
  each_component_at pool place bytes count.0 count.1

unfoldable pub record_at : List Entry → ℕ → List ℕ → ℕ → Result ⊤ ClassFault
record_at pool place bytes at = components_at pool place bytes at >>= whole place bytes

-- what the content of an attribute of a form means
unfoldable pub meaning_at : List Entry → AttrForm → ℕ → List ℕ → ℕ → Result ClassAttribute ClassFault
meaning_at pool forms.Host place bytes at = host_at pool place bytes at >>= λ name. Ok (attributes.Host name)
meaning_at pool forms.Members place bytes at = classes_at pool place bytes at >>= λ names. Ok (attributes.Members names)
meaning_at pool forms.Components place bytes at = record_at pool place bytes at >>= λ kept. Ok attributes.Record
meaning_at pool forms.Permits place bytes at = classes_at pool place bytes at >>= λ names. Ok (attributes.Permits names)
meaning_at pool _ place bytes at = Err (faults.Attribute place)

-- the attributes of a class with these flags, in a file of a major version
abbrev pub class_reader : ℕ → ℕ → List Entry → Reader AttrForm ClassAttribute ClassFault
class_reader major flags pool = reader (attribute_form sites.Class major) in_file (may_follow flags) (meaning_at pool)

abbrev pub host_in : ClassAttribute → Option (List ℕ)
host_in (attributes.Host name) = Some name
host_in _ = None

abbrev pub members_in : ClassAttribute → Option (List (List ℕ))
members_in (attributes.Members names) = Some names
members_in _ = None

abbrev pub permits_in : ClassAttribute → Option (List (List ℕ))
permits_in (attributes.Permits names) = Some names
permits_in _ = None

-- what the attributes of a class declare together
abbrev pub nests_of : List ClassAttribute → Nests
nests_of read = record { host = first_that host_in read; members = or_nothing (first_that members_in read); permits = first_that permits_in read }

unfoldable pub nests_at : ℕ → ℕ → List Entry → List ℕ → ℕ → Result (Nests × ℕ) ClassFault
nests_at major flags pool bytes at = do
  count ← number_at short 2 bytes at
  read ← attributes_at (class_reader major flags pool) pool count.0 bytes count.1
  Ok (nests_of read.0, read.1)

-- ---- members (JVMS 4.5, 4.6)

-- a field of a class or of an interface, behind those that were read so far
unfoldable pub field_at : Bool → List Entry → List ℕ → List FieldDecl → ℕ → Result (FieldDecl × ℕ) ClassFault
field_at in_interface pool bytes done at = do
  flags ← flags_at (are_field_flags in_interface) bytes at
  name ← named_at (text_that names_a_field pool) bytes flags.1
  desc ← named_at (text_that describes_a_field pool) bytes name.1
  if is_member_among (record { name = name.0; desc = desc.0 }) (map field_key done) then Err (faults.RepeatedMember name.0) else (do
    constant ← constants_at flags.0 desc.0 pool bytes desc.1
    Ok (record { flags = flags.0; name = name.0; desc = desc.0; constant = constant.0 }, constant.1))

unfoldable pub fields_at : Bool → List Entry → List ℕ → ℕ → Result (List FieldDecl × ℕ) ClassFault
fields_at in_interface pool bytes at = do
  count ← number_at short 2 bytes at
  each_at (field_at in_interface pool bytes) [] count.0 count.1

-- a method, behind those that were read so far
unfoldable pub method_at : List Entry → List ℕ → List MethodDecl → ℕ → Result (MethodDecl × ℕ) ClassFault
method_at pool bytes done at = do
  flags ← flags_at are_method_flags bytes at
  name ← named_at (text_that (names_method_with flags.0) pool) bytes flags.1
  desc ← named_at (text_that (describes_method_with name.0) pool) bytes name.1
  if is_member_among (record { name = name.0; desc = desc.0 }) (map method_key done) then Err (faults.RepeatedMember name.0) else (do
    code ← codes_at flags.0 pool bytes desc.1
    if has_code flags.0 && not (is_some code.0) then Err (faults.Attribute code.1)
        else Ok (record { flags = flags.0; name = name.0; desc = desc.0; code = code.0 }, code.1))

unfoldable pub methods_at : List Entry → List ℕ → ℕ → Result (List MethodDecl × ℕ) ClassFault
methods_at pool bytes at = do
  count ← number_at short 2 bytes at
  each_at (method_at pool bytes) [] count.0 count.1

-- ---- the whole file

-- the class in a file, or its first fault
unfoldable pub class_of : List ℕ → Result Class ClassFault
class_of bytes = do
  version ← front_at short faults.Magic faults.Version bytes 0
  pool ← class_pool_at bytes version.1
  flags ← flags_at are_class_flags bytes pool.1
  name ← named_at (class_named pool.0) bytes flags.1
  super ← super_at flags.0 name.0 pool.0 bytes name.1
  interfaces ← interfaces_at pool.0 bytes super.1
  fields ← fields_at (is_interface flags.0) pool.0 bytes interfaces.1
  methods ← methods_at pool.0 bytes fields.1
  nests ← nests_at version.0.0 flags.0 pool.0 bytes methods.1
  if nests.1 == length bytes then Ok (record {
    major = version.0.0;
    minor = version.0.1;
    flags = flags.0;
    name = name.0;
    super_name = super.0;
    interfaces = interfaces.0;
    fields = fields.0;
    methods = methods.0;
    nest_host = nests.0.host;
    nest_members = nests.0.members;
    permits = nests.0.permits;
    pool = pool.0;
  }) else Err faults.Trailing

-- Reading a declaration file from left to right, with the first fault that is met (JVMS 4.1, 4.7.25 to 4.7.27).
use Rattle.std.specs.Prelude.{ℕ, List, length, Option, None, Some, Result, Ok, Err, Bool, true, false, not, ◌==◌, codes, if◌then◌else◌}
use Rattle.std.specs.List.{list_any}
use Rattle.jl_logic.specs.Order.{is_text}
use Rattle.jl_reading.specs.Reading.{◌>>=◌, number_at}
use Rattle.jl_prim.specs.declared.declaration.Declaration.{Declaration}
use Rattle.jl_pool.specs.declared.entry.Entry.{Entry}
use Rattle.jl_pool.specs.Pool.{class_named}
use Rattle.jl_pool.specs.Reading.{pool_at}
use Rattle.jl_modinfo.specs.declared.module.Module.{Module}
use Rattle.jl_classfile.specs.Attributes.{Reader, first_that}
use Rattle.jl_classfile.specs.Attributes as framing_attributes
use Rattle.jl_classfile.specs.Front as framing
use Rattle.jl_modinfo.specs.declared.attribute.FileParts.{FileParts}
use Rattle.jl_modinfo.specs.declared.attribute.Form.{Form}
use Rattle.jl_modinfo.specs.declared.attribute.Form.TheVariants as forms
use Rattle.jl_modinfo.specs.declared.attribute.Part.{Part}
use Rattle.jl_modinfo.specs.declared.attribute.Part.TheVariants as parts
use Rattle.jl_tables.specs.declared.fault.InfoFault.{InfoFault}
use Rattle.jl_tables.specs.declared.fault.InfoFault.TheVariants as faults
use Rattle.jl_tables.specs.Meaning.{module_named, package_named, is_set, opened_named}
use Rattle.jl_modinfo.specs.Meaning.{class_text, is_module_info}
use Rattle.jl_modinfo.specs.Rules.{keeps_base_rule, missing_package}
use Rattle.jl_tables.specs.Faults.{short, pool_or}
use Rattle.jl_tables.specs.Reading.{name_at, names_at, version_at, requires_table_at, grants_at, provides_table_at}

-- ---- up to the attributes

-- magic and version, up to the pool
unfoldable pub front_at : List ℕ → Result ℕ InfoFault
front_at bytes = do
  version ← framing.front_at short faults.BadMagic (λ major minor. faults.BadVersion) bytes 0
  Ok version.1

-- a number that a module declaration has as 0
unfoldable pub zero_at : List ℕ → List ℕ → ℕ → Result ℕ InfoFault
zero_at field bytes at = do
  n ← number_at short 2 bytes at
  if n.0 == 0 then Ok n.1 else Err (faults.NotModule field)

-- flags and the name of the file's class
unfoldable pub this_at : List Entry → List ℕ → ℕ → Result ℕ InfoFault
this_at pool bytes at = do
  flags ← number_at short 2 bytes at
  if not (flags.0 == 0x8000) then Err (faults.NotModule (codes "flags")) else (do
    this ← number_at short 2 bytes flags.1
    if is_module_info (class_text pool this.0) then Ok this.1 else Err (faults.NotModule (codes "this")))

-- from the flags up to the count of the attributes
unfoldable pub empty_class_at : List Entry → List ℕ → ℕ → Result ℕ InfoFault
empty_class_at pool bytes at = do
  this ← this_at pool bytes at
  super ← zero_at (codes "super") bytes this
  interfaces ← zero_at (codes "interfaces") bytes super
  fields ← zero_at (codes "fields") bytes interfaces
  zero_at (codes "methods") bytes fields

-- ---- the contents of attributes, each all of the bytes from a place on

abbrev pub ended : {A : Type 0} → List ℕ → A × ℕ → Result A InfoFault
ended bytes x = if x.1 == length bytes then Ok x.0 else Err faults.Trailing

-- a Module attribute
unfoldable pub module_at : List Entry → List ℕ → ℕ → Result Module InfoFault
module_at pool bytes at = do
  name ← name_at module_named pool bytes at
  flags ← number_at short 2 bytes name.1
  version ← version_at pool bytes flags.1
  required ← requires_table_at pool bytes version.1
  exports ← grants_at (codes "exports") package_named pool bytes required.1
  opens ← grants_at (codes "opens") (opened_named (is_set flags.0 0x20)) pool bytes exports.1
  uses ← names_at (codes "uses") class_named pool bytes opens.1
  provides ← provides_table_at pool bytes uses.1
  ended bytes (
    record {
      name = name.0;
      is_open = is_set flags.0 0x20;
      version = version.0;
      required = required.0;
      exports = exports.0;
      opens = opens.0;
      uses = uses.0;
      provides = provides.0;
    },
    provides.1,
  )

-- a ModulePackages attribute
unfoldable pub packages_at : List Entry → List ℕ → ℕ → Result (List (List ℕ)) InfoFault
packages_at pool bytes at = names_at (codes "packages") package_named pool bytes at >>= ended bytes

-- a ModuleMainClass attribute
unfoldable pub main_at : List Entry → List ℕ → ℕ → Result (List ℕ) InfoFault
main_at pool bytes at = name_at class_named pool bytes at >>= ended bytes

-- ---- attributes

-- the form of the attributes of a name, where they are read
abbrev pub form_of : List ℕ → Option Form
form_of name =
    if is_text name (codes "Module") then Some forms.Module
    else if is_text name (codes "ModulePackages") then Some forms.Packages
    else if is_text name (codes "ModuleMainClass") then Some forms.MainClass
    else None

-- the name of the attributes of a form
abbrev pub form_name : Form → List ℕ
form_name forms.Module = codes "Module"
form_name forms.Packages = codes "ModulePackages"
form_name forms.MainClass = codes "ModuleMainClass"

abbrev pub is_form : Form → Form → Bool
is_form forms.Module forms.Module = true
is_form forms.Packages forms.Packages = true
is_form forms.MainClass forms.MainClass = true
is_form _ _ = false

-- the form of the attribute that means this
abbrev pub part_form : Part → Form
part_form (parts.Module m) = forms.Module
part_form (parts.Packages packages) = forms.Packages
part_form (parts.MainClass class) = forms.MainClass

-- what the content of an attribute means
abbrev pub part_at : List Entry → Form → List ℕ → ℕ → Result Part InfoFault
part_at pool forms.Module bytes at = module_at pool bytes at >>= λ m. Ok (parts.Module m)
part_at pool forms.Packages bytes at = packages_at pool bytes at >>= λ packages. Ok (parts.Packages packages)
part_at pool forms.MainClass bytes at = main_at pool bytes at >>= λ class. Ok (parts.MainClass class)

-- no attribute of the form was read
abbrev pub is_first : List Part → Form → Bool
is_first done form = not (list_any (λ part. is_form form (part_form part)) done)

-- how the attributes are read: at most one of each form, and others are passed over
abbrev pub reader_of : List Entry → Reader Form Part InfoFault
reader_of pool = record {
  form = form_of;
  may_stand = is_first;
  unnamed = λ at. faults.BadIndex at;
  refused = λ at form. faults.Repeated (codes "attributes") (form_name form);
  cut = λ at place. faults.Short place;
  meaning = λ form at bytes place. part_at pool form bytes place;
}

abbrev pub module_in : Part → Option Module
module_in (parts.Module m) = Some m
module_in _ = None

abbrev pub packages_in : Part → Option (List (List ℕ))
packages_in (parts.Packages packages) = Some packages
packages_in _ = None

abbrev pub main_in : Part → Option (List ℕ)
main_in (parts.MainClass class) = Some class
main_in _ = None

-- what the attributes declare together
abbrev pub attributes_in : List Part → FileParts
attributes_in read = record { «module» = first_that module_in read; packages = first_that packages_in read; main = first_that main_in read }

-- an attribute before others
abbrev pub before : Part → FileParts → FileParts
before (parts.Module m) behind = record behind { «module» = Some m }
before (parts.Packages packages) behind = record behind { packages = Some packages }
before (parts.MainClass class) behind = record behind { main = Some class }

-- the attributes whose count stands at a place
unfoldable pub attributes_at : List Entry → List ℕ → ℕ → Result (FileParts × ℕ) InfoFault
attributes_at pool bytes at = do
  count ← number_at short 2 bytes at
  read ← framing_attributes.attributes_at (reader_of pool) pool count.0 bytes count.1
  Ok (attributes_in read.0, read.1)

-- ---- the whole file

abbrev pub or_found : List (List ℕ) → Option (List (List ℕ)) → List (List ℕ)
or_found found None = found
or_found found (Some packages) = packages

abbrev pub declaration_of : Module → List (List ℕ) → Option (List ℕ) → Declaration
declaration_of m packages main = record {
  name = m.name;
  is_open = m.is_open;
  version = m.version;
  required = m.required;
  exports = m.exports;
  opens = m.opens;
  uses = m.uses;
  provides = m.provides;
  packages = packages;
  main = main;
}

-- a declaration that names a package which it has not
abbrev pub all_there : Declaration → Option (List ℕ) → Result Declaration InfoFault
all_there d None = Ok d
all_there d (Some name) = Err (faults.PackageMissing name)

-- the rules on a declaration, in order
abbrev pub ruled : Declaration → Result Declaration InfoFault
ruled d = if keeps_base_rule d.name d.required then all_there d (missing_package d) else Err faults.BaseRule

-- the rules on the whole file, in order
abbrev pub whole : List (List ℕ) → List ℕ → FileParts → ℕ → Result Declaration InfoFault
whole found bytes read at = by read.«module» where
  by : Option Module → Result Declaration InfoFault
  by None = Err faults.NoModuleAttribute
  by (Some m) = if at == length bytes then ruled (declaration_of m (or_found found read.packages) read.main) else Err faults.Trailing

-- the declaration in a file, or its first fault
unfoldable pub info_of : List ℕ → List (List ℕ) → Result Declaration InfoFault
info_of bytes found = do
  front ← front_at bytes
  pool ← pool_or (pool_at bytes front)
  at ← empty_class_at pool.0 bytes pool.1
  read ← attributes_at pool.0 bytes at
  whole found bytes read.0 read.1

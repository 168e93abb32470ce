-- Loading a class by its name (JVMS 5.3, 5.3.5, 4.7.31).
use Rattle.std.specs.Prelude.{unwrap_or, ℕ, zero, suc, nat_lt, List, [], ◌∷◌, ◌++◌, length, Option, None, Some, is_some, Result, Ok, Err, Bool, true, false, not, ◌&&◌, ◌||◌, ◌==◌, codes, if◌then◌else◌}
use Rattle.std.specs.List.{list_any}
use Rattle.std.specs.Option.{option_map_or}
use Rattle.std.specs.Map.{lookup}
use Rattle.jl_logic.specs.Order.{is_text}
use Rattle.jl_names.specs.Names.{package_of}
use Rattle.jl_names.specs.Dots.{dotted}
use Rattle.jl_prim.specs.Limits.{most_file_bytes}
use Rattle.jl_prim.specs.declared.numbers.ClassId.{ClassId}
use Rattle.jl_prim.specs.declared.numbers.ModuleId.{ModuleId}
use Rattle.jl_prim.specs.declared.numbers.LoaderId.{LoaderId}
use Rattle.jl_prim.specs.declared.error_kind.ErrorKind.TheVariants as errors
use Rattle.jl_tree.specs.Files.{File, read_of}
use Rattle.jl_tree.specs.declared.tree.TreeFault.{TreeFault}
use Rattle.jl_class.specs.Classes.{Class}
use Rattle.jl_class.specs.Meaning.{is_public, is_final, is_interface}
use Rattle.jl_class.specs.Reading.{class_of}
use Rattle.jl_class.specs.declared.fault.ClassFault.{ClassFault}
use Rattle.jl_access.specs.declared.verdict.Verdict.{Verdict}
use Rattle.jl_access.specs.declared.verdict.Verdict.TheVariants.{Granted, Denied}
use Rattle.jl_access.specs.declared.report.Key.{Key}
use Rattle.jl_access.specs.declared.report.NoteKind.{NoteKind}
use Rattle.jl_access.specs.declared.report.NoteKind.TheVariants as kinds
use Rattle.jl_access.specs.Verdicts.{class_verdict, is_one_package}
use Rattle.jl_access.specs.Reports.{is_due}
use Rattle.jl_loaders.specs.Loaders.{lead}
use Rattle.jl_loads.specs.declared.class_key.ClassKey.{ClassKey}
use Rattle.jl_loads.specs.declared.role.Role.{Role}
use Rattle.jl_loads.specs.declared.role.Role.TheVariants.{Superclass, Superinterface}
use Rattle.jl_loads.specs.Worlds.{State, Loaded, Thrown, Content, Absent, TooLong, Declares, Broken, Lost, with_kept, with_class, with_note, class_at, class_number, defined, place_of, is_base, loader_of_module, files_of_module}
use Rattle.jl_loads.specs.Outcomes.{Outcome, and_then, error, silent, of_class, wrong_file, format_error, denial}

-- ---- the file of a class

-- the path of the file, below the place of the module
abbrev pub path_of : List ℕ → List ℕ → List ℕ
path_of place name = place ++ codes "/" ++ name ++ codes ".class"

-- the class, where it has this name
abbrev pub of_name : List ℕ → Class → Result Class Thrown
of_name name c = if is_text c.name name then Ok c else Err (of_class errors.NoClassDefFoundError name)

-- what the bytes of a file declare
abbrev pub parsed : Result Class ClassFault → Content
parsed (Ok c) = Declares c
parsed (Err f) = Broken f

-- what a read gives
abbrev pub content_of : Result (Option (List ℕ)) TreeFault → Content
content_of (Ok None) = Absent
content_of (Ok (Some bytes)) = parsed (class_of bytes)
content_of (Err f) = TooLong

-- what was kept of a path
abbrev pub kept_at : State → List ℕ → Option Content
kept_at s path = lookup (is_text path) s.kept

-- What a path gives: what was kept of it, or what is read now.
abbrev pub content_at : List File → State → List ℕ → Content
content_at files s path = unwrap_or (kept_at s path) (content_of (read_of files path most_file_bytes))

-- with what the path gives kept: no path is read twice
abbrev pub with_file : List File → List ℕ → State → State
with_file files path s = if is_some (kept_at s path) then s else with_kept path (content_at files s path) s

-- what a file declares that should declare the class with this name: nothing where it is not there, too long or broken
abbrev pub declared_by : List ℕ → Content → Result Class Thrown
declared_by name Absent = Err (of_class errors.NoClassDefFoundError name)
declared_by name TooLong = Err (wrong_file errors.ClassFormatError name (codes "TooLarge"))
declared_by name (Declares c) = of_name name c
declared_by name (Broken f) = Err (format_error name f)
declared_by name Lost = Err (of_class errors.NoClassDefFoundError name)

-- the path of a class in a module
abbrev pub path_in : State → ModuleId → List ℕ → List ℕ
path_in s m name = path_of (files_of_module s m) name

-- What the file of a class in a module declares. java.base has no files: its classes are there from the start.
abbrev pub declared_in : List File → State → ModuleId → List ℕ → Outcome Class
declared_in files s m name =
    if is_base s m then (s, Err (of_class errors.NoClassDefFoundError name))
    else (with_file files (path_in s m name) s, declared_by name (content_at files s (path_in s m name)))

-- ---- access to a class (JVMS 5.4.4)

-- a check of one class by another, as the report has it
abbrev pub key : Loaded → Loaded → NoteKind → Verdict → Key
key from to kind verdict = record { from = from.home; to = to.home; «package» = Some (package_of to.declared.name); kind = kind; verdict = verdict }

-- with the note of a check at a step, where the two modules differ
abbrev pub with_check : ℕ → Loaded → Loaded → NoteKind → Verdict → State → State
with_check at from to kind verdict s = if is_due from.home to.home then with_note (key from to kind verdict) at s else s

-- what a verdict lets through
abbrev pub judged : Loaded → Loaded → List ℕ → Verdict → State → Outcome Unit
judged from to what Granted s = (s, Ok tt)
judged from to what (Denied rule) s = (s, Err (denial s from to what rule))

-- a verdict that is noted, and what it lets through
abbrev pub checked : ℕ → Loaded → Loaded → NoteKind → List ℕ → State → Verdict → Outcome Unit
checked at from to kind what s verdict = judged from to what verdict (with_check at from to kind verdict s)

-- The one class accesses the other.
abbrev pub access : ℕ → State → Loaded → Loaded → Outcome Unit
access at s from to = checked at from to kinds.Class (dotted to.declared.name) s (class_verdict s.layers.facts (place_of from) (place_of to) (is_public to.declared.flags))

-- ---- supertypes

-- a superclass is no interface and not final, and a superinterface is one
abbrev pub fits : Role → Class → Bool
fits Superclass c = not (is_interface c.flags || is_final c.flags)
fits Superinterface c = is_interface c.flags

-- the class is one of these
abbrev pub is_listed : Loaded → List (List ℕ) → Bool
is_listed new names = list_any (is_text new.declared.name) names

-- it is public, or of the run-time package of the other
abbrev pub is_near : Loaded → Loaded → Bool
is_near above new = is_public new.declared.flags || is_one_package (place_of above) (place_of new)

-- A class that lists these may be extended by one of them, which is of its module, and public or of its run-time package (JVMS 5.3.5).
abbrev pub permits_by : Loaded → Loaded → List (List ℕ) → Bool
permits_by above new names = ((above.home.0 == new.home.0) && is_listed new names) && is_near above new

-- a class that lists nobody may be extended by all
abbrev pub permits : Loaded → Loaded → Bool
permits above new = option_map_or (permits_by above new) above.declared.permits true

-- the class stands above the new one, if it is of the kind and permits it
abbrev pub fitted : State → Loaded → Role → ClassId → Loaded → Outcome ClassId
fitted s new role c above = if fits role above.declared && permits above new then (s, Ok c) else (s, Err (of_class errors.IncompatibleClassChangeError new.declared.name))

-- A class that is loaded as a supertype is accessed, and then its kind and its permission are looked at.
abbrev pub accepted : ℕ → State → Loaded → Role → ClassId → Option Loaded → Outcome ClassId
accepted at s new role c None = (s, Ok c)
accepted at s new role c (Some above) = and_then (access at s new above) (λ t u. fitted t new role c above)

-- A class loads one that it names above itself.
abbrev pub supertype : (State → List ℕ → Outcome ClassId) → ℕ → Loaded → State → Role → List ℕ → Outcome ClassId
supertype load at new s role name = and_then (load s name) (λ t c. accepted at t new role c (class_at t c))

-- the superclass, where the class names one
abbrev pub superclass : (State → List ℕ → Outcome ClassId) → ℕ → Loaded → State → Option (List ℕ) → Outcome (Option ClassId)
superclass load at new s None = (s, Ok None)
superclass load at new s (Some name) = and_then (supertype load at new s Superclass name) (λ t c. (t, Ok (Some c)))

-- The superinterfaces in turn, behind those that are there: each is accepted before the next one is loaded.
unfoldable pub interfaces_behind : (State → List ℕ → Outcome ClassId) → ℕ → Loaded → State → List ClassId → List (List ℕ) → Outcome (List ClassId)
interfaces_behind load at new s done [] = (s, Ok done)
interfaces_behind load at new s done (name ∷ names) =
    and_then (supertype load at new s Superinterface name) (λ t c. interfaces_behind load at new t (done ++ c ∷ []) names)

-- ---- a class

-- classes that are defined at most
abbrev pub most_classes : ℕ
most_classes = 65536

-- classes that wait for their supertypes at most
abbrev pub most_waiting : ℕ
most_waiting = 1024

-- a class before its supertypes are loaded
abbrev pub unlinked : LoaderId → ModuleId → Class → Loaded
unlinked l m c = record { loader = l; home = m; super = None; interfaces = []; declared = c }

-- the class with its supertypes
abbrev pub under : Loaded → Option ClassId → List ClassId → Loaded
under new super interfaces = record { loader = new.loader; home = new.home; super = super; interfaces = interfaces; declared = new.declared }

-- The class is defined behind the others, if there is room for one more.
abbrev pub define : State → Loaded → Outcome ClassId
define s c = if nat_lt (length s.classes) most_classes then (with_class c s, Ok (class_number (length s.classes))) else (s, Err (error errors.OutOfMemoryError (codes "classes")))

-- A class whose supertypes are loaded, the superclass first, and which is then defined.
abbrev pub linked : (State → List ℕ → Outcome ClassId) → ℕ → State → Loaded → Outcome ClassId
linked load at s new =
    and_then (superclass load at new s new.declared.super_name)
    (λ t super. and_then (interfaces_behind load at new t [] new.declared.interfaces) (λ u interfaces. define u (under new super interfaces)))

-- a class by what its file declares
abbrev pub derived : (State → List ℕ → Outcome ClassId) → ℕ → LoaderId → ModuleId → Outcome Class → Outcome ClassId
derived load at l m declared = and_then declared (λ t c. linked load at t (unlinked l m c))

-- the class is one of those that wait for their supertypes
abbrev pub is_waiting : LoaderId → List ℕ → List ClassKey → Bool
is_waiting l name ws = list_any (λ (w : ClassKey). (w.loader.0 == l.0) && is_text w.name name) ws

-- the class, if it is defined; if it waits for itself, it is circular; and if neither, it is made
abbrev pub found_or : Option ClassId → State → List ClassKey → LoaderId → List ℕ → Outcome ClassId → Outcome ClassId
found_or (Some c) s waiting l name made = (s, Ok c)
found_or None s waiting l name made = if is_waiting l name waiting then (s, Err (of_class errors.ClassCircularityError name)) else made

-- the module to which a name is led, and its loader; where it is led nowhere there is no class
abbrev pub led_to : Option ModuleId → State → List ClassKey → List ℕ → (ModuleId → LoaderId → Outcome ClassId) → Outcome ClassId
led_to None s waiting name made = (s, Err (of_class errors.NoClassDefFoundError name))
led_to (Some m) s waiting name made = found_or (defined s (loader_of_module s m) name) s waiting (loader_of_module s m) name (made m (loader_of_module s m))

-- A name is loaded where the loader leads it. A class that is not defined is made by its file, after its supertypes, for which it waits; n more may wait.
unfoldable pub load_by : ℕ → List File → ℕ → List ClassKey → State → LoaderId → List ℕ → Outcome ClassId
load_by zero files at waiting s l name = led_to (lead s.layers.loaders l name) s waiting name (λ m k. (s, Err (silent errors.StackOverflowError)))
load_by (suc n) files at waiting s l name = led_to (lead s.layers.loaders l name) s waiting name
    (λ m k. derived (λ t above. load_by n files at (waiting ++ record { loader = k; name = name } ∷ []) t k above) at k m (declared_in files s m name))

-- A loader loads the class with a name, at a step.
abbrev pub load : List File → ℕ → State → LoaderId → List ℕ → Outcome ClassId
load files at s l name = load_by most_waiting files at [] s l name

-- ---- whether there is a file

-- there is a file
abbrev pub is_there : Content → Bool
is_there Absent = false
is_there Lost = false
is_there _ = true

-- a module that is not java.base has the file, however long it is; what it gives is kept
abbrev pub has_file_in : List File → State → List ℕ → ModuleId → State × Bool
has_file_in files s name m = if is_base s m then (s, false) else (with_file files (path_in s m name) s, is_there (content_at files s (path_in s m name)))

-- the module that the loader leads the name to has the file
abbrev pub has_file : List File → State → LoaderId → List ℕ → State × Bool
has_file files s l name = option_map_or (has_file_in files s name) (lead s.layers.loaders l name) (s, false)

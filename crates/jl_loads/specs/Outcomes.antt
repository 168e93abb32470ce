-- What a call leaves: a state, and a value or the error that it throws. The texts of errors.
use Rattle.std.specs.Prelude.{ℕ, List, ◌++◌, None, Some, Result, Ok, Err, codes}
use Rattle.std.specs.Fmt.{decimal}
use Rattle.jl_names.specs.Dots.{dotted}
use Rattle.jl_names.specs.Utf16.{utf16}
use Rattle.jl_prim.specs.declared.error_kind.ErrorKind.{ErrorKind}
use Rattle.jl_prim.specs.declared.error_kind.ErrorKind.TheVariants as errors
use Rattle.jl_class.specs.declared.fault.ClassFault.{ClassFault}
use Rattle.jl_class.specs.declared.fault.ClassFault.TheVariants as faults
use Rattle.jl_access.specs.declared.verdict.Rule.{Rule}
use Rattle.jl_access.specs.Texts.{rule_text}
use Rattle.jl_loads.specs.Worlds.{State, Loaded, Thrown, module_text}

-- a state, and a value or an error in it
abbrev pub Outcome : Type 0 → Type 0
Outcome X = State × Result X Thrown

-- goes on in the state with the value; an error ends it
abbrev pub and_then : {X Y : Type 0} → Outcome X → (State → X → Outcome Y) → Outcome Y
and_then (s, Ok x) next = next s x
and_then (s, Err e) next = (s, Err e)

-- ---- errors

-- an error with a message
abbrev pub error : ErrorKind → List ℕ → Thrown
error kind text = record { kind = kind; message = Some (utf16 text) }

-- an error without one
abbrev pub silent : ErrorKind → Thrown
silent kind = record { kind = kind; message = None }

-- an error whose message is the name of a class
abbrev pub of_class : ErrorKind → List ℕ → Thrown
of_class kind name = error kind (dotted name)

-- an error whose message is a class and a member of it
abbrev pub of_member : ErrorKind → List ℕ → List ℕ → Thrown
of_member kind class name = error kind (dotted class ++ codes "." ++ name)

-- ---- faults of class files

-- a blank and a number
abbrev pub field : ℕ → List ℕ
field n = codes " " ++ decimal n

-- a version as it is printed
abbrev pub version_text : ℕ → ℕ → List ℕ
version_text major minor = (codes "Version" ++ field major) ++ field minor

-- the second member of one name and descriptor
abbrev pub repeated_text : List ℕ → List ℕ
repeated_text name = codes "RepeatedMember " ++ name

-- a fault as it is printed: its kind, and its fields
abbrev pub fault_text : ClassFault → List ℕ
fault_text faults.Magic = codes "Magic"
fault_text (faults.Version major minor) = version_text major minor
fault_text (faults.Short at) = codes "Short" ++ field at
fault_text (faults.Pool i) = codes "Pool" ++ field i
fault_text (faults.Name at) = codes "Name" ++ field at
fault_text (faults.Flags at) = codes "Flags" ++ field at
fault_text (faults.Attribute at) = codes "Attribute" ++ field at
fault_text (faults.RepeatedMember name) = repeated_text name
fault_text faults.Trailing = codes "Trailing"
fault_text faults.NoMemory = codes "NoMemory"

-- a class and what is wrong with its file
abbrev pub wrong_file : ErrorKind → List ℕ → List ℕ → Thrown
wrong_file kind name text = error kind (dotted name ++ codes ": " ++ text)

-- the class of the error
abbrev pub format_kind : ClassFault → ErrorKind
format_kind (faults.Version major minor) = errors.UnsupportedClassVersionError
format_kind _ = errors.ClassFormatError

-- the error of a class file with a fault (JVMS 5.3.5)
abbrev pub format_error : List ℕ → ClassFault → Thrown
format_error name f = wrong_file (format_kind f) name (fault_text f)

-- ---- denials

-- who is denied what by which rule, in which modules
abbrev pub denial_text : State → Loaded → Loaded → List ℕ → Rule → List ℕ
denial_text s from to what rule =
    rule_text rule ++ codes ": " ++ dotted from.declared.name ++ codes " in " ++ module_text s from.home ++ codes " to " ++ what ++ codes " in " ++ module_text s to.home

-- the error of it
abbrev pub denial : State → Loaded → Loaded → List ℕ → Rule → Thrown
denial s from to what rule = error errors.IllegalAccessError (denial_text s from to what rule)

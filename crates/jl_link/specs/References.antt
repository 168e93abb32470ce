-- Resolving a reference of a class (JVMS 5.4.3): to a class, to an array class, to a field or to a method.
use Rattle.std.specs.Prelude.{ℕ, List, [], ◌∷◌, ◌++◌, Option, None, Some, is_none, unwrap_or, Result, Ok, Err, Bool, true, false, not, ◌&&◌, ◌||◌, ◌==◌, codes, if◌then◌else◌}
use Rattle.jl_logic.specs.Order.{is_text}
use Rattle.jl_names.specs.Dots.{dotted}
use Rattle.jl_names.specs.Descriptors.{descriptor_read, class_in}
use Rattle.jl_names.specs.declared.types.Descriptor.{Descriptor}
use Rattle.jl_names.specs.declared.types.Descriptor.TheVariants as descriptors
use Rattle.jl_names.specs.declared.fault.TextFault.{TextFault}
use Rattle.jl_prim.specs.declared.numbers.ClassId.{ClassId}
use Rattle.jl_prim.specs.declared.error_kind.ErrorKind.{ErrorKind}
use Rattle.jl_prim.specs.declared.error_kind.ErrorKind.TheVariants as errors
use Rattle.jl_tree.specs.Files.{File}
use Rattle.jl_pool.specs.declared.entry.Entry.{Entry}
use Rattle.jl_pool.specs.Pool.{member_of}
use Rattle.jl_code.specs.References.{class_text, member_tag, member_class, member_name, member_desc}
use Rattle.jl_class.specs.Meaning.{is_public, is_protected, is_private, is_static, is_interface}
use Rattle.jl_access.specs.declared.verdict.Access.{Access}
use Rattle.jl_access.specs.declared.verdict.Access.TheVariants as accesses
use Rattle.jl_access.specs.declared.verdict.MemberAccess.{MemberAccess}
use Rattle.jl_access.specs.declared.report.NoteKind.TheVariants as kinds
use Rattle.jl_access.specs.Verdicts.{member_verdict, is_one_package}
use Rattle.jl_loads.specs.declared.slot.Target.{Target}
use Rattle.jl_loads.specs.declared.slot.Target.TheVariants as targets
use Rattle.jl_loads.specs.declared.slot.PoolSlot.{PoolSlot}
use Rattle.jl_loads.specs.declared.slot.PoolSlot.TheVariants.{Empty, Passed, Failed}
use Rattle.jl_loads.specs.Worlds.{State, Loaded, Thrown, with_slot, slot_at, class_at, defined, place_of, is_same, is_subclass, field_id, method_id}
use Rattle.jl_loads.specs.Outcomes.{Outcome, and_then, of_class, of_member}
use Rattle.jl_loads.specs.Loading.{load, access, checked}
use Rattle.jl_link.specs.declared.member.Member.{Member}
use Rattle.jl_link.specs.declared.kind.MemberKind.{MemberKind}
use Rattle.jl_link.specs.declared.kind.MemberKind.TheVariants.{FieldEntry, MethodEntry, InterfaceMethodEntry}
use Rattle.jl_link.specs.Members.{Wanted, field_of, class_method, interface_method}
use Rattle.jl_link.specs.Nests.{host_of}
use Rattle.jl_link.specs.Constraining.{agree}

-- ---- classes (JVMS 5.4.3.1)

-- a class that was loaded is accessed from another
abbrev pub accessed : ℕ → State → Loaded → ClassId → Option Loaded → Outcome ClassId
accessed at s from c None = (s, Ok c)
accessed at s from c (Some to) = and_then (access at s from to) (λ t u. (t, Ok c))

-- The class of a name: the loader of the class that names it loads it, and that class accesses it.
abbrev pub class_by_name : List File → ℕ → State → Loaded → List ℕ → Outcome ClassId
class_by_name files at s from name = and_then (load files at s from.loader name) (λ t c. accessed at t from c (class_at t c))

-- the text names an array
abbrev pub is_array : List ℕ → Bool
is_array [] = false
is_array (b ∷ bs) = b == 91

-- the class of an array's elements is loaded and accessed, where they have one
abbrev pub array_of : List File → ℕ → State → Loaded → List ℕ → Option (List ℕ) → Outcome Target
array_of files at s from text None = (s, Ok (targets.Array text))
array_of files at s from text (Some name) = and_then (class_by_name files at s from name) (λ t c. (t, Ok (targets.Array text)))

-- An array class by its descriptor. Another text names no class.
abbrev pub array_by : List File → ℕ → State → Loaded → List ℕ → Result Descriptor TextFault → Outcome Target
array_by files at s from text (Ok (descriptors.Field t)) = array_of files at s from text (class_in text t)
array_by files at s from text _ = (s, Err (of_class errors.NoClassDefFoundError text))

-- what the text of a class entry refers to
abbrev pub class_by_text : List File → ℕ → State → Loaded → List ℕ → Outcome Target
class_by_text files at s from text =
    if is_array text then array_by files at s from text (descriptor_read text)
    else and_then (class_by_name files at s from text) (λ t c. (t, Ok (targets.Class c)))

-- ---- once for all (JVMS 5.4.3)

-- how resolving ended, as it is kept
abbrev pub slot_of : Result Target Thrown → PoolSlot
slot_of (Ok t) = Passed t
slot_of (Err e) = Failed e.kind e.message

-- what was found is kept at the index
abbrev pub settled : ClassId → ℕ → Outcome Target → Outcome Target
settled d i (s, r) = (with_slot d i (slot_of r) s, r)

-- A reference that failed throws its error again, and one that passed has its target: neither adds anything. Any other is resolved, and that is kept.
abbrev pub by_slot : PoolSlot → State → ClassId → ℕ → Outcome Target → Outcome Target
by_slot Empty s d i resolved = settled d i resolved
by_slot (Passed t) s d i resolved = (s, Ok t)
by_slot (Failed kind message) s d i resolved = (s, Err (record { kind = kind; message = message }))

abbrev pub once_for_all : State → ClassId → ℕ → Outcome Target → Outcome Target
once_for_all s d i resolved = by_slot (slot_at s d i) s d i resolved

-- the class entry at an index of a class, resolved anew
abbrev pub class_anew : List File → ℕ → State → Loaded → ℕ → Outcome Target
class_anew files at s from i = class_by_text files at s from (unwrap_or (class_text from.declared.pool i) [])

-- the class entry at an index of a class
abbrev pub resolve_class : List File → ℕ → State → ClassId → Loaded → ℕ → Outcome Target
resolve_class files at s d from i = once_for_all s d i (class_anew files at s from i)

-- ---- members (JVMS 5.4.3.2 to 5.4.3.4)

-- which kind of member a tag of the pool means
abbrev pub kind_of_tag : ℕ → MemberKind
kind_of_tag tag = if tag == 9 then FieldEntry else if tag == 10 then MethodEntry else InterfaceMethodEntry

-- a member entry: its kind, the text of its class, and its name and descriptor
pub record Named : Type 0 where
  pub kind : MemberKind
  pub class : List ℕ
  pub wanted : Wanted

-- the member entry at an index
abbrev pub entry_at : List Entry → ℕ → Named
entry_at pool i = record { kind = kind_of_tag (unwrap_or (member_tag pool i) 0); class = unwrap_or (member_class pool i) []; wanted = record { name = unwrap_or (member_name pool i) []; desc = unwrap_or (member_desc pool i) [] } }

-- the class in which a member is looked up, which for an array is Object
abbrev pub looked_up_in : State → Target → Option ClassId
looked_up_in s (targets.Class c) = Some c
looked_up_in s (targets.Array text) = defined s (record { 0 = 1 }) (codes "java/lang/Object")
looked_up_in s _ = None

-- methods of classes are looked up in classes, and those of interfaces in interfaces
abbrev pub fits_kind : MemberKind → Loaded → Bool
fits_kind FieldEntry c = true
fits_kind MethodEntry c = not (is_interface c.declared.flags)
fits_kind InterfaceMethodEntry c = is_interface c.declared.flags

-- the member that a class has
abbrev pub member_in : MemberKind → State → ClassId → Wanted → Option Member
member_in FieldEntry s c w = field_of s c w
member_in MethodEntry s c w = class_method s c w
member_in InterfaceMethodEntry s c w = interface_method s c w

-- the error where there is none
abbrev pub missing_kind : MemberKind → ErrorKind
missing_kind FieldEntry = errors.NoSuchFieldError
missing_kind _ = errors.NoSuchMethodError

-- what an entry refers to
abbrev pub target_of : MemberKind → State → Member → Target
target_of FieldEntry s m = targets.Field (field_id s m.owner m.at)
target_of _ s m = targets.Method (method_id s m.owner m.at)

-- ---- access to a member (JVMS 5.4.4)

-- by who may use it
abbrev pub access_of : ℕ → Access
access_of flags = if is_public flags then accesses.Public else if is_protected flags then accesses.Protected else if is_private flags then accesses.Private else accesses.Package

-- clone of Object is public to those who call it on an array
abbrev pub is_array_clone : Target → Wanted → Bool
is_array_clone (targets.Array text) w = is_text w.name (codes "clone")
is_array_clone _ w = false

-- how the class that names a member stands to it: named is the class in which it was looked up
abbrev pub stands : State → ClassId → Loaded → ClassId → Access → Member → Loaded → Bool → MemberAccess
stands s d from named access m to same_nest = record {
  access = access;
  is_static = is_static m.flags;
  same_class = is_same d m.owner;
  same_nest = same_nest;
  same_package = is_one_package (place_of from) (place_of to);
  subclass = is_subclass s d m.owner;
  named_related = is_subclass s named d || is_subclass s d named;
}

-- A private member of another class is asked for in one nest: the hosts of the caller and of the other class are loaded, in this order.
abbrev pub in_one_nest : List File → ℕ → State → ClassId → Member → State × Bool
in_one_nest files at s d m = if is_private m.flags && not (is_same d m.owner) then compared (host_of files at s d) else (s, false) where
  second : ClassId → State × ClassId → State × Bool
  second h (u, k) = (u, is_same h k)

  compared : State × ClassId → State × Bool
  compared (t, h) = second h (host_of files at t m.owner)

-- a member as errors name it
abbrev pub member_text : List ℕ → List ℕ → List ℕ
member_text class name = dotted class ++ codes "." ++ name

-- who may use the member, seen from the target by which it is named
abbrev pub access_by : Target → Wanted → ℕ → Access
access_by t w flags = if is_array_clone t w then accesses.Public else access_of flags

-- The member is judged, once it is known whether the classes are of one nest.
abbrev pub judged_member : ℕ → ClassId → Loaded → ClassId → Access → Wanted → Member → Loaded → State × Bool → Outcome Unit
judged_member at d from named access w m to (s, same_nest) =
    checked at from to kinds.Member (member_text to.declared.name w.name) s (member_verdict (stands s d from named access m to same_nest))

-- ---- a member reference

-- What a member that was found adds: access to it, and constraints on the two loaders.
abbrev pub let_through : List File → ℕ → State → ClassId → Loaded → ClassId → Target → Named → Member → Option Loaded → Outcome Target
let_through files at s d from named t e m None = (s, Ok (target_of e.kind s m))
let_through files at s d from named t e m (Some to) =
    and_then (judged_member at d from named (access_by t e.wanted m.flags) e.wanted m to (in_one_nest files at s d m)) (λ u x.
    and_then (agree u from.loader to.loader e.wanted.desc) (λ v y. (v, Ok (target_of e.kind v m))))

-- the member, where the class has it
abbrev pub with_member : List File → ℕ → State → ClassId → Loaded → ClassId → Target → Named → Option Member → Outcome Target
with_member files at s d from named t e None = (s, Err (of_member (missing_kind e.kind) e.class e.wanted.name))
with_member files at s d from named t e (Some m) = let_through files at s d from named t e m (class_at s m.owner)

-- the member of a class, of which the kind has to fit
abbrev pub in_class : List File → ℕ → State → ClassId → Loaded → Target → Named → ClassId → Option Loaded → Outcome Target
in_class files at s d from t e named None = (s, Err (of_member (missing_kind e.kind) e.class e.wanted.name))
in_class files at s d from t e named (Some c) =
    if fits_kind e.kind c then with_member files at s d from named t e (member_in e.kind s named e.wanted)
    else (s, Err (of_member errors.IncompatibleClassChangeError e.class e.wanted.name))

-- the member of the class that a class reference has as its target
abbrev pub in_target : List File → ℕ → State → ClassId → Loaded → Named → Target → Option ClassId → Outcome Target
in_target files at s d from e t None = (s, Err (of_member (missing_kind e.kind) e.class e.wanted.name))
in_target files at s d from e t (Some c) = in_class files at s d from t e c (class_at s c)

-- A member entry: its class reference first, by the index that this has itself, and then the member.
abbrev pub member_at_index : List File → ℕ → State → ClassId → Loaded → Option (ℕ × ℕ × ℕ) → Named → Outcome Target
member_at_index files at s d from None e = (s, Err (of_member (missing_kind e.kind) e.class e.wanted.name))
member_at_index files at s d from (Some parts) e =
    and_then (resolve_class files at s d from parts.1) (λ t c. in_target files at t d from e c (looked_up_in t c))

-- the member entry at an index of a class, resolved anew
abbrev pub member_anew : List File → ℕ → State → ClassId → Loaded → ℕ → Outcome Target
member_anew files at s d from i = member_at_index files at s d from (member_of from.declared.pool i) (entry_at from.declared.pool i)

-- ---- a reference

-- the entry at an index, of a class or of a member
abbrev pub anew_in : List File → ℕ → State → ClassId → ℕ → Loaded → Outcome Target
anew_in files at s d i from =
    if is_none (member_of from.declared.pool i) then class_anew files at s from i else member_anew files at s d from i

-- What a reference of a class refers to, found anew at a step: the target or the error, and what is loaded, noted, imposed and kept for it.
abbrev pub resolve_anew : List File → ℕ → State → ClassId → ℕ → Outcome Target
resolve_anew files at s d i = by_class (class_at s d) where
  by_class : Option Loaded → Outcome Target
  by_class None = (s, Err (of_class errors.NoClassDefFoundError []))
  by_class (Some from) = anew_in files at s d i from

-- A reference of a class is resolved, once for all.
abbrev pub resolve : List File → ℕ → State → ClassId → ℕ → Outcome Target
resolve files at s d i = once_for_all s d i (resolve_anew files at s d i)

-- What has been loaded over layers of modules (JVMS 5.3, 5.4): classes, and the checks that were made.
use Rattle.std.specs.Prelude.{◌≡◌, ℕ, zero, suc, ◌+◌, ◌-◌, ◌≤◌, ◌<◌, List, [], ◌∷◌, ◌++◌, length, map, take, drop, filter, replicate, slice_get, slice_set, unwrap_or, Option, None, Some, option_map, Bool, false, not, ◌&&◌, ◌||◌, ◌==◌, codes}
use Rattle.std.specs.List.{position_from, flat_map, list_any, sum}
use Rattle.std.specs.Option.{option_map_or, option_and_then}
use Rattle.std.specs.Fmt.{decimal}
use Rattle.jl_logic.specs.Lists.{IsFront}
use Rattle.jl_logic.specs.Order.{is_text}
use Rattle.jl_names.specs.Names.{package_of}
use Rattle.jl_prim.specs.declared.numbers.ClassId.{ClassId}
use Rattle.jl_prim.specs.declared.numbers.FieldId.{FieldId}
use Rattle.jl_prim.specs.declared.numbers.MethodId.{MethodId}
use Rattle.jl_prim.specs.declared.numbers.ModuleId.{ModuleId}
use Rattle.jl_prim.specs.declared.numbers.LoaderId.{LoaderId}
use Rattle.jl_prim.specs.declared.error_kind.ErrorKind.{ErrorKind}
use Rattle.jl_class.specs.Classes.{Class}
use Rattle.jl_class.specs.declared.member.FieldDecl.{FieldDecl}
use Rattle.jl_class.specs.declared.member.MethodDecl.{MethodDecl}
use Rattle.jl_access.specs.declared.verdict.Place.{Place}
use Rattle.jl_access.specs.declared.report.Key.{Key}
use Rattle.jl_access.specs.Reports.{Line, noted}
use Rattle.jl_class.specs.declared.fault.ClassFault.{ClassFault}
use Rattle.jl_layer.specs.declared.layer.Member.{Member}
use Rattle.jl_layer.specs.Layers as layers
use Rattle.jl_loads.specs.declared.slot.PoolSlot.{PoolSlot}
use Rattle.jl_loads.specs.declared.slot.PoolSlot.TheVariants.{Empty}
use Rattle.jl_layer.specs.Layers.{numbered, member_of, declaration_of}

-- A class: its defining loader and the module of that, the classes that it extends and implements, and what its file declares.
pub record Loaded : Type 0 where
  pub loader : LoaderId
  pub home : ModuleId
  pub super : Option ClassId
  pub interfaces : List ClassId
  pub declared : Class

-- an error that is thrown: its kind, and its message in UTF-16 units
pub record Thrown : Type 0 where
  pub kind : ErrorKind
  pub message : Option (List ℕ)

-- What a path gave: no file, a file that is too long, a class, or a fault. Of a path that could not be read nothing is known.
pub data Content : Type 0 where
  Absent : Content
  TooLong : Content
  Declares : Class → Content
  Broken : ClassFault → Content
  Lost : Content

-- Classes have numbers from 1 on, in the order in which they were defined.
pub record State : Type 0 where
  pub layers : layers.State
  pub classes : List Loaded
  pub report : List Line
  -- for each class what its references were decided to mean, by the indices of its pool
  pub slots : List (List PoolSlot)
  -- each path that was read, and what it gave
  pub kept : List (List ℕ × Content)

-- layers with no class
abbrev pub bare : layers.State → State
bare l = record { layers = l; classes = []; report = []; slots = []; kept = [] }

-- with one note more in the report
abbrev pub with_note : Key → ℕ → State → State
with_note key step s = record s { report = noted key step s.report }

-- no reference of a class is decided yet
abbrev pub blank : Loaded → List PoolSlot
blank c = replicate (length c.declared.pool) Empty

-- with one class more
abbrev pub with_class : Loaded → State → State
with_class c s = record s { classes = s.classes ++ c ∷ []; slots = s.slots ++ blank c ∷ [] }

-- over these layers
abbrev pub with_layers : layers.State → State → State
with_layers l s = record s { layers = l }

-- what is decided of the references of a class
abbrev pub row_of : State → ClassId → List PoolSlot
row_of s c = unwrap_or (numbered s.slots c.0) []

-- with one reference of a class decided
abbrev pub with_slot : ClassId → ℕ → PoolSlot → State → State
with_slot c i x s = record s { slots = slice_set s.slots (c.0 - 1) (slice_set (row_of s c) i x) }

-- with one path more that was read
abbrev pub with_kept : List ℕ → Content → State → State
with_kept path what s = record s { kept = s.kept ++ (path, what) ∷ [] }

-- The layers and what is decided stay, and so do the classes that are there and what was read; more classes come behind them, of which nothing is decided.
pub record Keeps (old new : State) : Type 0 where
  pub layers : new.layers ≡ old.layers
  pub classes : IsFront old.classes new.classes
  pub slots : new.slots ≡ old.slots ++ map blank (drop (length old.classes) new.classes)
  pub kept : IsFront old.kept new.kept

-- ---- classes

-- the same class
abbrev pub is_same : ClassId → ClassId → Bool
is_same c d = c.0 == d.0

-- one of these
abbrev pub is_among : ClassId → List ClassId → Bool
is_among c cs = list_any (is_same c) cs

-- the class with a number
abbrev pub class_at : State → ClassId → Option Loaded
class_at s c = numbered s.classes c.0

-- a class with this number is there
abbrev pub IsClass : State → ClassId → Type 0
IsClass s c = (0 < c.0) × (c.0 ≤ length s.classes)

-- what is decided of a reference of a class
abbrev pub slot_at : State → ClassId → ℕ → PoolSlot
slot_at s c i = unwrap_or (slice_get (row_of s c) i) Empty

-- the class has this loader and this name
abbrev pub is_named : LoaderId → List ℕ → Loaded → Bool
is_named l name c = (c.loader.0 == l.0) && is_text c.declared.name name

-- the number of a class by its place in the list
abbrev pub class_number : ℕ → ClassId
class_number p = record { 0 = p + 1 }

-- the class that a loader has defined with a name
abbrev pub defined : State → LoaderId → List ℕ → Option ClassId
defined s l name = option_map (λ n. record { 0 = n }) (position_from (is_named l name) 1 s.classes)

-- where a class is, for checks of access
abbrev pub place_of : Loaded → Place
place_of c = record { «module» = c.home; loader = c.loader; «package» = package_of c.declared.name }

-- ---- modules

-- the module of java.base
abbrev pub is_base : State → ModuleId → Bool
is_base s m = option_map_or (λ (b : ModuleId). b.0 == m.0) s.layers.loaders.base false

-- the loader of a module; of none it is loader 0, which is none
abbrev pub loader_of_module : State → ModuleId → LoaderId
loader_of_module s m = option_map_or (λ (x : Member). x.loader) (member_of s.layers m) (record { 0 = 0 })

-- where the files of a module are
abbrev pub files_of_module : State → ModuleId → List ℕ
files_of_module s m = option_map_or (λ (x : Member). x.observed.place) (member_of s.layers m) []

-- a module as it is printed: its name and its layer
abbrev pub module_text : State → ModuleId → List ℕ
module_text s m = option_map_or (λ (x : Member). (declaration_of x).name ++ codes "@" ++ decimal x.layer.0) (member_of s.layers m) []

-- ---- supertypes

-- the direct superclass
abbrev pub super_of : State → ClassId → Option ClassId
super_of s c = option_and_then (λ (x : Loaded). x.super) (class_at s c)

-- the direct superinterfaces, in order
abbrev pub interfaces_of : State → ClassId → List ClassId
interfaces_of s c = option_map_or (λ (x : Loaded). x.interfaces) (class_at s c) []

-- a class and its superclasses from there up, n of them at most
unfoldable pub line_by : ℕ → State → Option ClassId → List ClassId
line_by n s None = []
line_by zero s (Some c) = []
line_by (suc n) s (Some c) = c ∷ line_by n s (super_of s c)

-- The class and its superclasses, from the class up. Supertypes have lower numbers, so there are no more than the number says.
abbrev pub line_of : State → ClassId → List ClassId
line_of s c = line_by c.0 s (Some c)

-- each class once, at its first place
unfoldable pub each_once : List ClassId → List ClassId
each_once [] = []
each_once (c ∷ cs) = c ∷ filter (λ d. not (is_same c d)) (each_once cs)

-- superinterfaces, some more than once: each direct one behind its own superinterfaces, and then those of the superclass
unfoldable pub above_by : ℕ → State → ClassId → List ClassId
above_by zero s c = []
above_by (suc n) s c = flat_map (λ i. above_by n s i ++ i ∷ []) (interfaces_of s c) ++ option_map_or (above_by n s) (super_of s c) []

-- The superinterfaces of a class, in the order in which methods, constraints and initialization take them.
abbrev pub superinterfaces : State → ClassId → List ClassId
superinterfaces s c = each_once (above_by c.0 s c)

-- the one is the other or one of its subclasses
abbrev pub is_subclass : State → ClassId → ClassId → Bool
is_subclass s c d = is_among d (line_of s c)

-- the one is the other, extends it or implements it, at any depth
abbrev pub is_subtype : State → ClassId → ClassId → Bool
is_subtype s c d = is_subclass s c d || is_among d (superinterfaces s c)

-- ---- numbers of members

-- how many fields there are in the classes before one
abbrev pub fields_before : State → ClassId → ℕ
fields_before s c = sum (map (λ (x : Loaded). length x.declared.fields) (take (c.0 - 1) s.classes))

-- how many methods
abbrev pub methods_before : State → ClassId → ℕ
methods_before s c = sum (map (λ (x : Loaded). length x.declared.methods) (take (c.0 - 1) s.classes))

-- how many fields there are in all
abbrev pub all_fields : State → ℕ
all_fields s = sum (map (λ (x : Loaded). length x.declared.fields) s.classes)

-- how many methods
abbrev pub all_methods : State → ℕ
all_methods s = sum (map (λ (x : Loaded). length x.declared.methods) s.classes)

-- the fields of a class
abbrev pub fields_of : State → ClassId → List FieldDecl
fields_of s c = option_map_or (λ (x : Loaded). x.declared.fields) (class_at s c) []

-- the methods of a class
abbrev pub methods_of : State → ClassId → List MethodDecl
methods_of s c = option_map_or (λ (x : Loaded). x.declared.methods) (class_at s c) []

-- Fields have numbers from 0 on, in the order of their classes and of their places there.
abbrev pub field_id : State → ClassId → ℕ → FieldId
field_id s c at = record { 0 = fields_before s c + at }

-- and so have methods
abbrev pub method_id : State → ClassId → ℕ → MethodId
method_id s c at = record { 0 = methods_before s c + at }

-- the field with a number: a class, and a place in its list
pub record IsFieldOf (s : State) (f : FieldId) (c : ClassId) (at : ℕ) : Type 0 where
  pub class : IsClass s c
  pub within : at < length (fields_of s c)
  pub number : field_id s c at ≡ f

-- the method with a number
pub record IsMethodOf (s : State) (m : MethodId) (c : ClassId) (at : ℕ) : Type 0 where
  pub class : IsClass s c
  pub within : at < length (methods_of s c)
  pub number : method_id s c at ≡ m

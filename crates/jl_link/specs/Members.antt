-- Looking up a field or a method by its name and descriptor (JVMS 5.4.3.2 to 5.4.3.4).
use Rattle.std.specs.Prelude.{ℕ, zero, suc, ◌<◌, List, [], ◌∷◌, length, filter, Option, None, Some, option_map, is_some, slice_get, Bool, false, not, ◌&&◌, ◌||◌, if◌then◌else◌}
use Rattle.std.specs.List.{list_any, position}
use Rattle.std.specs.Option.{option_map_or, option_and_then, option_or}
use Rattle.jl_logic.specs.Order.{is_text}
use Rattle.jl_prim.specs.declared.numbers.ClassId.{ClassId}
use Rattle.jl_class.specs.declared.member.FieldDecl.{FieldDecl}
use Rattle.jl_class.specs.declared.member.MethodDecl.{MethodDecl}
use Rattle.jl_class.specs.Meaning.{is_public, is_private, is_static, is_abstract}
use Rattle.jl_link.specs.declared.member.Member.{Member}
use Rattle.jl_loads.specs.Worlds.{State, Loaded, IsClass, class_at, super_of, interfaces_of, superinterfaces, line_of, is_same, is_subtype, fields_of, methods_of}

-- a name and a descriptor
pub record Wanted : Type 0 where
  pub name : List ℕ
  pub desc : List ℕ

abbrev pub wanted : List ℕ → List ℕ → Wanted
wanted name desc = record { name = name; desc = desc }

-- the field that was found is there
pub record IsFieldThere (s : State) (m : Member) : Type 0 where
  pub class : IsClass s m.owner
  pub at : m.at < length (fields_of s m.owner)

-- and so is the method
pub record IsMethodThere (s : State) (m : Member) : Type 0 where
  pub class : IsClass s m.owner
  pub at : m.at < length (methods_of s m.owner)

-- the first for which there is something
abbrev pub first_given : {X Y : Type 0} → (X → Option Y) → List X → Option Y
first_given f [] = None
first_given f (x ∷ xs) = option_or (f x) (first_given f xs)

-- ---- fields

abbrev pub is_field : Wanted → FieldDecl → Bool
is_field w f = is_text f.name w.name && is_text f.desc w.desc

-- the field at a place of a class
abbrev pub field_at : ClassId → List FieldDecl → ℕ → Option Member
field_at c fs p = option_map (λ (f : FieldDecl). record { owner = c; at = p; flags = f.flags }) (slice_get fs p)

-- the field among those of a class
abbrev pub field_in : Wanted → ClassId → List FieldDecl → Option Member
field_in w c fs = option_and_then (field_at c fs) (position (is_field w) fs)

-- the field that a class itself declares
abbrev pub own_field : State → Wanted → ClassId → Option Member
own_field s w c = option_and_then (λ (x : Loaded). field_in w c x.declared.fields) (class_at s c)

-- a field of the class, or else of its superinterfaces in order, or else of its superclass, over n classes at most
unfoldable pub field_by : ℕ → State → Wanted → ClassId → Option Member
field_by zero s w c = None
field_by (suc n) s w c = option_or (own_field s w c) (option_or (first_given (field_by n s w) (interfaces_of s c)) (option_and_then (field_by n s w) (super_of s c)))

-- The field that a class has (JVMS 5.4.3.2). Supertypes have lower numbers.
abbrev pub field_of : State → ClassId → Wanted → Option Member
field_of s c w = field_by c.0 s w c

-- ---- methods

abbrev pub is_method : Wanted → MethodDecl → Bool
is_method w m = is_text m.name w.name && is_text m.desc w.desc

-- the method at a place of a class
abbrev pub method_at : ClassId → List MethodDecl → ℕ → Option Member
method_at c ms p = option_map (λ (m : MethodDecl). record { owner = c; at = p; flags = m.flags }) (slice_get ms p)

-- the method among those of a class
abbrev pub method_in : Wanted → ClassId → List MethodDecl → Option Member
method_in w c ms = option_and_then (method_at c ms) (position (is_method w) ms)

-- the method that a class itself declares
abbrev pub own_method : State → Wanted → ClassId → Option Member
own_method s w c = option_and_then (λ (x : Loaded). method_in w c x.declared.methods) (class_at s c)

-- a member with a property
abbrev pub only_if : (ℕ → Bool) → Member → Option Member
only_if P m = if P m.flags then Some m else None

-- neither private nor static
abbrev pub is_inherited : ℕ → Bool
is_inherited flags = not (is_private flags || is_static flags)

-- the method that an interface hands on
abbrev pub offered : State → Wanted → ClassId → Option Member
offered s w i = option_and_then (only_if is_inherited) (own_method s w i)

-- the superinterfaces of a class that hand the method on, in order
abbrev pub offering : State → ClassId → Wanted → List ClassId
offering s c w = filter (λ i. is_some (offered s w i)) (superinterfaces s c)

-- the second is a subinterface of the first
abbrev pub refines : State → ClassId → ClassId → Bool
refines s i j = not (is_same i j) && is_subtype s j i

-- another one of these is a subinterface
abbrev pub is_refined : State → List ClassId → ClassId → Bool
is_refined s is i = list_any (refines s i) is

-- those that are maximally specific: no other one of them is a subinterface (JVMS 5.4.3.3)
abbrev pub most_specific : State → ClassId → Wanted → List ClassId
most_specific s c w = filter (λ i. not (is_refined s (offering s c w) i)) (offering s c w)

-- the method of an interface is not abstract
abbrev pub is_default : State → Wanted → ClassId → Bool
is_default s w i = option_map_or (λ (m : Member). not (is_abstract m.flags)) (offered s w i) false

-- the interfaces whose maximally specific method is not abstract
abbrev pub defaults : State → ClassId → Wanted → List ClassId
defaults s c w = filter (is_default s w) (most_specific s c w)

-- the item of a list of one
abbrev pub only_one : {X : Type 0} → List X → Option X
only_one (x ∷ []) = Some x
only_one _ = None

-- the only maximally specific method that is not abstract, or else the first that is handed on

abbrev pub from_interfaces : State → ClassId → Wanted → Option Member
from_interfaces s c w = option_or (option_and_then (offered s w) (only_one (defaults s c w))) (first_given (offered s w) (superinterfaces s c))

-- The method that a class has: its own or that of a superclass, or else one of its superinterfaces (JVMS 5.4.3.3).
abbrev pub class_method : State → ClassId → Wanted → Option Member
class_method s c w = option_or (first_given (own_method s w) (line_of s c)) (from_interfaces s c w)

-- public, and of instances
abbrev pub is_shared : ℕ → Bool
is_shared flags = is_public flags && not (is_static flags)

-- a method of Object, which is the superclass of an interface
abbrev pub object_method : State → ClassId → Wanted → Option Member
object_method s c w = option_and_then (λ o. option_and_then (only_if is_shared) (own_method s w o)) (super_of s c)

-- The method that an interface has: its own, or one of Object, or else one of its superinterfaces (JVMS 5.4.3.4).
abbrev pub interface_method : State → ClassId → Wanted → Option Member
interface_method s c w = option_or (own_method s w c) (option_or (object_method s c w) (from_interfaces s c w))

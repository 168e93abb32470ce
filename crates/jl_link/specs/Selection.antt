-- Which method an object's class has for a method that was resolved (JVMS 5.4.5, 5.4.6).
use Rattle.std.specs.Prelude.{ℕ, zero, suc, List, [], ◌∷◌, slice_get, Option, None, Some, Result, Ok, Err, Bool, false, not, ◌&&◌, ◌||◌, ◌==◌, if◌then◌else◌}
use Rattle.std.specs.List.{list_any}
use Rattle.std.specs.Option.{option_map_or, option_and_then}
use Rattle.jl_prim.specs.declared.numbers.ClassId.{ClassId}
use Rattle.jl_prim.specs.declared.numbers.MethodId.{MethodId}
use Rattle.jl_prim.specs.declared.error_kind.ErrorKind.{ErrorKind}
use Rattle.jl_prim.specs.declared.error_kind.ErrorKind.TheVariants as errors
use Rattle.jl_class.specs.declared.member.MethodDecl.{MethodDecl}
use Rattle.jl_class.specs.Meaning.{is_public, is_protected, is_private, is_abstract, is_init, is_interface}
use Rattle.jl_access.specs.Verdicts.{is_one_package}
use Rattle.jl_loads.specs.Worlds.{State, Loaded, class_at, place_of, is_same, is_subclass, is_subtype, line_of, methods_of, method_id}
use Rattle.jl_loads.specs.Outcomes.{Outcome, silent, of_member}
use Rattle.jl_link.specs.declared.member.Member.{Member}
use Rattle.jl_link.specs.Members.{Wanted, wanted, first_given, is_inherited, own_method, offered, defaults}

-- the same method
abbrev pub is_same_method : Member → Member → Bool
is_same_method a b = is_same a.owner b.owner && (a.at == b.at)

-- public or protected
abbrev pub is_wide_open : ℕ → Bool
is_wide_open flags = is_public flags || is_protected flags

-- two classes are of one run-time package
abbrev pub both_in_one_package : Option Loaded → Option Loaded → Bool
both_in_one_package (Some x) (Some y) = is_one_package (place_of x) (place_of y)
both_in_one_package _ _ = false

abbrev pub in_one_package : State → ClassId → ClassId → Bool
in_one_package s c d = both_in_one_package (class_at s c) (class_at s d)

-- all see the method, or the class of the other one does
abbrev pub is_seen_from : State → Member → ClassId → Bool
is_seen_from s a c = is_wide_open a.flags || in_one_package s c a.owner

-- the methods of this name and descriptor that classes between two declare, from below
abbrev pub is_between : State → ClassId → ClassId → ClassId → Bool
is_between s below above k = not (is_same k below) && (not (is_same k above) && is_subclass s k above)

-- a method between the two that the one overrides and that overrides the other
abbrev pub by_way_of : (Member → Member → Bool) → Member → Member → Option Member → Bool
by_way_of overrides b a None = false
by_way_of overrides b a (Some m) = overrides b m && overrides m a

-- a class between the two has such a method
abbrev pub is_way : (Member → Member → Bool) → State → Wanted → Member → Member → ClassId → Bool
is_way overrides s w b a k = is_between s b.owner a.owner k && by_way_of overrides b a (own_method s w k)

abbrev pub has_way : (Member → Member → Bool) → State → Wanted → Member → Member → Bool
has_way overrides s w b a = list_any (is_way overrides s w b a) (line_of s b.owner)

-- b can override a, of one name and descriptor: b is neither private nor static, and its class sees a, or there is a method between the two that b can override and that can override a; over n classes at most (JVMS 5.4.5)
unfoldable pub overrides_by : ℕ → State → Wanted → Member → Member → Bool
overrides_by zero s w b a = false
overrides_by (suc n) s w b a = is_inherited b.flags && (is_seen_from s a b.owner || has_way (overrides_by n s w) s w b a)

-- The one can override the other. What makes an instance is never overridden (JVMS 2.9.1).
abbrev pub can_override : State → Wanted → Member → Member → Bool
can_override s w b a = not (is_init w.name) && overrides_by b.owner.0 s w b a

-- the method of a class, where it is this one or can override it
abbrev pub if_overriding : State → Wanted → Member → Member → Option Member
if_overriding s w a m = if is_same_method m a || can_override s w m a then Some m else None

-- that of the class with a number
abbrev pub overriding_at : State → Wanted → Member → ClassId → Option Member
overriding_at s w a k = option_and_then (if_overriding s w a) (own_method s w k)

-- the first method from a class upwards that is this one or can override it
abbrev pub overriding : State → ClassId → Wanted → Member → Option Member
overriding s c w a = first_given (overriding_at s w a) (line_of s c)

-- a method that is not abstract
abbrev pub concrete : Member → Result Member ErrorKind
concrete m = if is_abstract m.flags then Err errors.AbstractMethodError else Ok m

-- the method of an interface, where it is not abstract
abbrev pub offered_by : State → Wanted → ClassId → Result Member ErrorKind
offered_by s w i = option_map_or concrete (offered s w i) (Err errors.AbstractMethodError)

-- the only one of some interfaces that have the method
abbrev pub from_defaults : State → Wanted → List ClassId → Result Member ErrorKind
from_defaults s w [] = Err errors.AbstractMethodError
from_defaults s w (i ∷ []) = offered_by s w i
from_defaults s w (i ∷ j ∷ is) = Err errors.IncompatibleClassChangeError

-- the superinterfaces that have the method, but what makes an instance
abbrev pub selectable : State → ClassId → Wanted → List ClassId
selectable s c w = if is_init w.name then [] else defaults s c w

-- the method of the class, or else the one of its superinterfaces
abbrev pub own_or_default : State → ClassId → Wanted → Option Member → Result Member ErrorKind
own_or_default s c w (Some m) = concrete m
own_or_default s c w None = from_defaults s w (selectable s c w)

-- the class has the methods of the one that declares it: a method of an interface asks for a class that implements it
abbrev pub implements : State → ClassId → Member → Option Loaded → Bool
implements s c m None = false
implements s c m (Some owner) = not (is_interface owner.declared.flags) || is_subtype s c m.owner

-- The method that is called of an object of a class, for a method of instances that was resolved, or the kind of the error. A private one is itself (JVMS 5.4.6).
abbrev pub selected : State → ClassId → Wanted → Member → Result Member ErrorKind
selected s c w m =
    if not (implements s c m (class_at s m.owner)) then Err errors.IncompatibleClassChangeError
    else if is_private m.flags then Ok m
    else own_or_default s c w (overriding s c w m)

-- the method at a place of a class, whatever its flags
abbrev pub placed : ClassId → ℕ → Member
placed owner at = record { owner = owner; at = at; flags = 0 }

-- the name of a class
abbrev pub class_name : State → ClassId → List ℕ
class_name s c = option_map_or (λ (x : Loaded). x.declared.name) (class_at s c) []

-- the number of the method, or the error, which names the method that was resolved
abbrev pub number_or_error : State → ClassId → List ℕ → Result Member ErrorKind → Outcome MethodId
number_or_error s owner name (Ok m) = (s, Ok (method_id s m.owner m.at))
number_or_error s owner name (Err kind) = (s, Err (of_member kind (class_name s owner) name))

-- the member that a method of a class is
abbrev pub as_member : ClassId → ℕ → MethodDecl → Member
as_member owner at m = record { owner = owner; at = at; flags = m.flags }

-- what is selected for a method that is declared
abbrev pub select_for : State → ClassId → ClassId → ℕ → Option MethodDecl → Outcome MethodId
select_for s c owner at None = (s, Err (silent errors.AbstractMethodError))
select_for s c owner at (Some m) = number_or_error s owner m.name (selected s c (wanted m.name m.desc) (as_member owner at m))

-- The method that is called of an object of a class, for the method at a place of another, or the error that is thrown.
abbrev pub select : State → ClassId → ClassId → ℕ → Outcome MethodId
select s c owner at = select_for s c owner at (slice_get (methods_of s owner) at)

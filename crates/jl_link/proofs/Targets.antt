-- What a reference refers to is there.
use Rattle.std.proofs.Common.{◌≡◌, ◌<◌, ◌≤◌, ◌+◌, ℕ, List, [], length, Bool, true, false, cond, Option, Some, None, inl, inr, sym, subst, arith}
use Rattle.std.specs.Prelude.{unwrap_or}
use Rattle.std.specs.Option.{option_or, option_and_then}
use Rattle.std.proofs.lemmas.Option.{none-some, same_Some}
use Rattle.jl_prim.specs.declared.numbers.ClassId.{ClassId}
use Rattle.jl_prim.specs.declared.numbers.FieldId.{FieldId}
use Rattle.jl_prim.specs.declared.numbers.MethodId.{MethodId}
use Rattle.jl_pool.specs.Pool.{member_of}
use Rattle.jl_code.specs.References.{class_text}
use Rattle.jl_loads.specs.declared.slot.Target.{Target}
use Rattle.jl_loads.specs.declared.slot.Target.TheVariants as targets
use Rattle.jl_loads.specs.declared.slot.PoolSlot.TheVariants.{Passed}
use Rattle.jl_layer.specs.Layers.{numbered}
use Rattle.jl_loads.specs.Worlds.{State, Loaded, IsClass, slot_at, class_at, super_of, line_of, superinterfaces, all_fields, all_methods, fields_before, methods_before, fields_of, methods_of}
use Rattle.jl_loads.proofs.Counting.{fields_among, methods_among}
use Rattle.jl_link.specs.declared.kind.MemberKind.{MemberKind}
use Rattle.jl_link.specs.declared.kind.MemberKind.TheVariants.{FieldEntry, MethodEntry, InterfaceMethodEntry}
use Rattle.jl_link.specs.declared.member.Member.{Member}
use Rattle.jl_link.specs.Laws.{AllStand}
use Rattle.jl_link.specs.Members.{Wanted, IsFieldThere, IsMethodThere, first_given, own_method, only_if, is_inherited, is_shared, offered, only_one, defaults, from_interfaces, class_method, interface_method, object_method}
use Rattle.jl_link.specs.References.{Named, member_in, target_of, entry_at}
use Rattle.jl_link.specs.Slots.{IsMemberThere}
use Rattle.jl_link.specs.Standing.{RefersTo, RefersFrom, IsMemberOf, NamesTarget, Reaches}
use Rattle.jl_link.specs.There.{IsTargetThere}
use Rattle.jl_link.proofs.Looking.{own_method_there, field_there, then_some, or_some, first_some, numbered_there}

-- ---- a member that was found is there

-- a member with a property is the member
only : (test : ℕ → Bool) (m n : Member) → only_if test m ≡ Some n → m ≡ n
only test m n e = by (test m.flags) e
  where
    by : (b : Bool) → cond b (Some m) None ≡ Some n → m ≡ n
    by true h = same_Some m n h
    by false h = absurd (none-some n h)

module _ (s : State) (w : Wanted) where
  own_that : (test : ℕ → Bool) (c : ClassId) (m : Member) → option_and_then (only_if test) (own_method s w c) ≡ Some m → IsMethodThere s m
  own_that test c m e = let r = then_some (only_if test) (own_method s w c) m e in subst (IsMethodThere s) (only test r.0 m r.2) (own_method_there s w c r.0 r.1)

  offered_there : (i : ClassId) (m : Member) → offered s w i ≡ Some m → IsMethodThere s m
  offered_there i m e = own_that is_inherited i m e

  interfaces_there : (c : ClassId) (m : Member) → from_interfaces s c w ≡ Some m → IsMethodThere s m
  interfaces_there c m e = elim (or_some (option_and_then (offered s w) (only_one (defaults s c w))) (first_given (offered s w) (superinterfaces s c)) m e) [
    | inl i ↦ let r = then_some (offered s w) (only_one (defaults s c w)) m i in offered_there r.0 m r.2
    | inr i ↦ let r = first_some (offered s w) (superinterfaces s c) m i in offered_there r.0 m r.1
  ]

  class_there : (c : ClassId) (m : Member) → class_method s c w ≡ Some m → IsMethodThere s m
  class_there c m e = elim (or_some (first_given (own_method s w) (line_of s c)) (from_interfaces s c w) m e) [
    | inl i ↦ let r = first_some (own_method s w) (line_of s c) m i in own_method_there s w r.0 m r.1
    | inr i ↦ interfaces_there c m i
  ]

  object_there : (c : ClassId) (m : Member) → object_method s c w ≡ Some m → IsMethodThere s m
  object_there c m e = let r = then_some (λ (o : ClassId). option_and_then (only_if is_shared) (own_method s w o)) (super_of s c) m e in own_that is_shared r.0 m r.2

  interface_there : (c : ClassId) (m : Member) → interface_method s c w ≡ Some m → IsMethodThere s m
  interface_there c m e = elim (or_some (own_method s w c) (option_or (object_method s c w) (from_interfaces s c w)) m e) [
    | inl i ↦ own_method_there s w c m i
    | inr i ↦ elim (or_some (object_method s c w) (from_interfaces s c w) m i) [
      | inl j ↦ object_there c m j
      | inr j ↦ interfaces_there c m j
    ]
  ]

  member_there : (kind : MemberKind) (c : ClassId) (m : Member) → member_in kind s c w ≡ Some m → IsMemberThere kind s m
  member_there FieldEntry c m e = field_there s w c m e
  member_there MethodEntry c m e = class_there c m e
  member_there InterfaceMethodEntry c m e = interface_there c m e

-- ---- and so is what an entry refers to

field_named : (s : State) (m : Member) → IsFieldThere s m → fields_before s m.owner + m.at < all_fields s
field_named s m h = let most : fields_before s m.owner + length (fields_of s m.owner) ≤ all_fields s = fields_among s m.owner h.class in omega (arith, most, h.at)

method_named : (s : State) (m : Member) → IsMethodThere s m → methods_before s m.owner + m.at < all_methods s
method_named s m h = let most : methods_before s m.owner + length (methods_of s m.owner) ≤ all_methods s = methods_among s m.owner h.class in omega (arith, most, h.at)

named : (kind : MemberKind) (s : State) (m : Member) → IsMemberThere kind s m → IsTargetThere s (target_of kind s m)
named FieldEntry s m h = field_named s m h
named MethodEntry s m h = method_named s m h
named InterfaceMethodEntry s m h = method_named s m h

class_named : (s : State) (from : Loaded) (text : List ℕ) (t : Target) → NamesTarget s from text t → IsTargetThere s t
class_named s from text (targets.Class c) h = numbered_there s.classes c.0 h.1.to h.1.class
class_named s from text (targets.Array a) h = tt
class_named s from text (targets.Field f) h = absurd h
class_named s from text (targets.Method m) h = absurd h

refers_there : (s : State) (d : ClassId) (i : ℕ) (from : Loaded) (t : Target) (parts : Option (ℕ × ℕ × ℕ)) → RefersFrom s d i from t parts → IsTargetThere s t
refers_there s d i from t None h = class_named s from (unwrap_or (class_text from.declared.pool i) []) t h
refers_there s d i from t (Some parts) h =
    let m = h.2 in
    let e : Named = entry_at from.declared.pool i in
    subst (IsTargetThere s) (sym m.target) (named e.kind s m.member (member_there s e.wanted e.kind m.within m.member m.found))

pub target_there : (s : State) → AllStand s → (d : ClassId) (i : ℕ) (t : Target) → slot_at s d i ≡ Passed t → IsTargetThere s t
target_there s all d i t e = let r = all.passed d i t e in refers_there s d i r.from t (member_of r.from.declared.pool i) r.refers

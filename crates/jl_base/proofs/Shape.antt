-- What a class that was made part by part declares.
use Rattle.std.proofs.Common.{◌≡◌, ℕ, List, [], ◌∷◌, ◌++◌, length, None, Result, Ok, refl, ap, subst, ◌∙◌, append_assoc, append-nil}
use Rattle.std.specs.Prelude.{codes, nat_lt, Bool, true, false, cond}
use Rattle.std.specs.List.{flat_map}
use Rattle.jl_reading.proofs.Steps.{bind_ok, guard_ok, ok_is}
use Rattle.jl_pool.specs.declared.entry.Entry.{Entry}
use Rattle.jl_pool.specs.declared.entry.Entry.TheVariants as entries
use Rattle.jl_class.specs.declared.member.FieldDecl.{FieldDecl}
use Rattle.jl_class.specs.declared.member.MethodDecl.{MethodDecl}
use Rattle.jl_class.specs.Classes.{Class}
use Rattle.jl_classw.specs.declared.fault.WriteFault.{WriteFault}
use Rattle.jl_classw.specs.declared.fault.WriteFault.TheVariants as faults
use Rattle.jl_classw.specs.Building.{Making, unless_empty, class_entered, super_entered, attribute_entered, new_class, of_class, with_interface, with_field, with_method}
use Rattle.jl_base.specs.Rows.{Row, Member, is_field}
use Rattle.jl_base.specs.Made.{class_named, class_begun, class_made, with_interfaces, with_member, with_members}
use Rattle.jl_base.specs.Images.{field_in, method_in, pool_in, class_of}

-- a class with more interfaces, fields and methods, and another pool
abbrev grown : Class → List (List ℕ) → List FieldDecl → List MethodDecl → List Entry → Class
grown c is fs ms pool = record c { interfaces = c.interfaces ++ is; fields = c.fields ++ fs; methods = c.methods ++ ms; pool = pool }

grown_none : (c : Class) → c ≡ grown c [] [] [] c.pool
grown_none c = rw (append-nil c.interfaces, append-nil c.fields, append-nil c.methods) refl

grown_twice : (c : Class) (is js : List (List ℕ)) (fs gs : List FieldDecl) (ms ns : List MethodDecl) (p q : List Entry) → grown (grown c is fs ms p) js gs ns q ≡ grown c (is ++ js) (fs ++ gs) (ms ++ ns) q
grown_twice c is js fs gs ms ns p q = rw (append_assoc c.interfaces is js, append_assoc c.fields fs gs, append_assoc c.methods ms ns) refl

-- what one class grew to, behind what it was
then_grown : (a b c : Class) (is js : List (List ℕ)) (fs gs : List FieldDecl) (ms ns : List MethodDecl) → b ≡ grown a is fs ms b.pool → c ≡ grown b js gs ns c.pool → c ≡ grown a (is ++ js) (fs ++ gs) (ms ++ ns) c.pool
then_grown a b c is js fs gs ms ns e f = f ∙ ap (λ it. grown it js gs ns c.pool) e ∙ grown_twice a is js fs gs ms ns b.pool c.pool

interface_grown : (c d : Class) (name : List ℕ) → with_interface c name ≡ Ok d → d ≡ grown c (name ∷ []) [] [] d.pool
unfolding with_interface
interface_grown c d name e =
    let g = guard_ok (nat_lt 65534 (length c.interfaces)) (faults.TooMany (codes "interfaces")) _ d e in
    let b = bind_ok (class_entered c.pool name) _ d g.1 in
    rw (append-nil c.fields, append-nil c.methods) (subst (λ (v : Class). v ≡ record c { interfaces = c.interfaces ++ name ∷ []; pool = v.pool }) (ok_is _ _ b.2) refl)

field_grown : (c d : Class) (flags : ℕ) (name desc : List ℕ) → with_field c flags name desc None ≡ Ok d → d ≡ grown c [] ((record { flags = flags; name = name; desc = desc; constant = None }) ∷ []) [] d.pool
unfolding with_field
field_grown c d flags name desc e =
    let g = guard_ok (nat_lt 65534 (length c.fields)) (faults.TooMany (codes "fields")) _ d e in
    let n = bind_ok (attribute_entered c.pool name) _ d g.1 in
    let t = bind_ok (attribute_entered n.0 desc) _ d n.2 in
    let made : FieldDecl = record { flags = flags; name = name; desc = desc; constant = None } in
    rw (append-nil c.interfaces, append-nil c.methods) (subst (λ (v : Class). v ≡ record c { fields = c.fields ++ made ∷ []; pool = v.pool }) (ok_is _ _ t.2) refl)

method_grown : (c d : Class) (flags : ℕ) (name desc : List ℕ) → with_method c flags name desc None ≡ Ok d → d ≡ grown c [] [] ((record { flags = flags; name = name; desc = desc; code = None }) ∷ []) d.pool
unfolding with_method
method_grown c d flags name desc e =
    let g = guard_ok (nat_lt 65534 (length c.methods)) (faults.TooMany (codes "methods")) _ d e in
    let n = bind_ok (attribute_entered c.pool name) _ d g.1 in
    let t = bind_ok (attribute_entered n.0 desc) _ d n.2 in
    let made : MethodDecl = record { flags = flags; name = name; desc = desc; code = None } in
    rw (append-nil c.interfaces, append-nil c.fields) (subst (λ (v : Class). v ≡ record c { methods = c.methods ++ made ∷ []; pool = v.pool }) (ok_is _ _ t.2) refl)

-- a call that changes the class alone
class_changed : (b c : Making) (made : Result Class WriteFault) → of_class b made ≡ Ok c → made ≡ Ok c.class
class_changed b c made e =
    let d = bind_ok made _ c e in
    d.1 ∙ ap (λ (it : Making). Ok it.class) (ok_is _ _ d.2)

interfaces_grown : (b c : Making) (names : List (List ℕ)) → with_interfaces b names ≡ Ok c → c.class ≡ grown b.class names [] [] c.class.pool
interfaces_grown b c [] e = subst (λ (it : Making). it.class ≡ grown b.class [] [] [] it.class.pool) (ok_is b c e) (grown_none b.class)
interfaces_grown b c (name ∷ names) e =
    let x = bind_ok (of_class b (with_interface b.class name)) _ c e in
    let first = interface_grown b.class x.0.class name (class_changed b x.0 _ x.1) in
    then_grown b.class x.0.class c.class (name ∷ []) names [] [] [] [] first (interfaces_grown x.0 c names x.2)

field_or_method : (c d : Class) (m : Member) (field : Bool) → cond field (with_field c m.flags m.name m.desc None) (with_method c m.flags m.name m.desc None) ≡ Ok d
    → d ≡ grown c [] (cond field ((record { flags = m.flags; name = m.name; desc = m.desc; constant = None }) ∷ []) []) (cond field [] ((record { flags = m.flags; name = m.name; desc = m.desc; code = None }) ∷ [])) d.pool
field_or_method c d m true e = field_grown c d m.flags m.name m.desc e
field_or_method c d m false e = method_grown c d m.flags m.name m.desc e

member_grown : (b c : Making) (m : Member) → with_member b m ≡ Ok c → c.class ≡ grown b.class [] (field_in m) (method_in m) c.class.pool
member_grown b c m e = field_or_method b.class c.class m (is_field m.kind) (class_changed b c _ e)

members_grown : (b c : Making) (ms : List Member) → with_members b ms ≡ Ok c → c.class ≡ grown b.class [] (flat_map field_in ms) (flat_map method_in ms) c.class.pool
members_grown b c [] e = subst (λ (it : Making). it.class ≡ grown b.class [] [] [] it.class.pool) (ok_is b c e) (grown_none b.class)
members_grown b c (m ∷ ms) e =
    let x = bind_ok (with_member b m) _ c e in
    then_grown b.class x.0.class c.class [] [] (field_in m) (flat_map field_in ms) (method_in m) (flat_map method_in ms) (member_grown b x.0 m x.1) (members_grown x.0 c ms x.2)

-- the class that begins, whose pool is not looked at
abbrev named_class : Row → List Entry → Class
named_class row pool = record {
  major = 61;
  minor = 0;
  flags = row.flags;
  name = row.name;
  super_name = unless_empty row.super_name;
  interfaces = [];
  fields = [];
  methods = [];
  nest_host = None;
  nest_members = [];
  permits = None;
  pool = pool;
}

named_is : (row : Row) (b : Making) → class_named row ≡ Ok b → b.class ≡ named_class row b.class.pool
unfolding new_class
named_is row b e =
    let this = bind_ok (class_entered (entries.Unused ∷ []) row.name) _ b e in
    let super = bind_ok (super_entered this.0.0 (unless_empty row.super_name)) _ b this.2 in
    subst (λ (it : Making). it.class ≡ named_class row it.class.pool) (ok_is _ _ super.2) refl

pub made_class : (row : Row) (c : Class) → class_made row ≡ Ok c → c ≡ class_of row
unfolding class_made class_begun class_of
made_class row c e =
    let begun = bind_ok (class_begun row) _ c e in
    let whole = bind_ok (with_members begun.0 row.members) _ c begun.2 in
    let named = bind_ok (class_named row) _ begun.0 begun.1 in
    let n = named_is row named.0 named.1 in
    let i = interfaces_grown named.0 begun.0 row.interfaces named.2 in
    let m = members_grown begun.0 whole.0 row.members whole.1 in
    let is_whole : whole.0.class ≡ c = ok_is _ _ whole.2 in
    let pool : pool_in (class_made row) ≡ c.pool = ap pool_in e in
    let all : whole.0.class ≡ grown (named_class row named.0.class.pool) row.interfaces (flat_map field_in row.members) (flat_map method_in row.members) whole.0.class.pool
    = then_grown (named_class row named.0.class.pool) begun.0.class whole.0.class row.interfaces [] [] (flat_map field_in row.members) [] (flat_map method_in row.members)
    (i ∙ ap (λ it. grown it row.interfaces [] [] begun.0.class.pool) n) m
    ∙ rw (append-nil row.interfaces) refl in
    rw pool (subst (λ (it : Class). it ≡ grown (named_class row named.0.class.pool) row.interfaces (flat_map field_in row.members) (flat_map method_in row.members) it.pool) is_whole all)

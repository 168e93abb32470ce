-- A class file: what is read stands there, and what stands there is read.
use Rattle.std.proofs.Common.{◌≡◌, ℕ, ◌+◌, List, [], ◌∷◌, ◌++◌, length, eqb, false, Option, None, Some, Result, Ok, Err, refl, sym, ap, ◌∙◌, subst}
use Rattle.std.specs.Prelude.{IsTrue, ◌&&◌, position, is_some, ⊤}
use Rattle.std.proofs.lemmas.Bool.{eqb-true, eq-eqb}
use Rattle.jl_reading.specs.Reading.{Stands, IsBytes, two, counted}
use Rattle.jl_reading.proofs.Steps.{bind_ok, ok_is, bind_to, else_ok}
use Rattle.jl_reading.proofs.Stands.{Along}
use Rattle.jl_optable.specs.declared.attributes.AttrForm.TheVariants as forms
use Rattle.jl_pool.specs.declared.entry.Entry.{Entry}
use Rattle.jl_pool.specs.declared.fault.PoolFault.{PoolFault}
use Rattle.jl_pool.specs.Pool.{class_named}
use Rattle.jl_pool.specs.Reading.{pool_at}
use Rattle.jl_pool.specs.Spelling.{StandsPool}
use Rattle.jl_pool.proofs.Whole.{pool_stands, pool_again}
use Rattle.jl_classfile.specs.Front.{front_at}
use Rattle.jl_classfile.specs.Spelling.{Attribute, AtMostOne, HasName, attribute_bytes, contents}
use Rattle.jl_classfile.proofs.FrontLaws.{front_stands, front_reads}
use Rattle.jl_class.specs.declared.fault.ClassFault.TheVariants as faults
use Rattle.jl_class.specs.declared.member.FieldDecl.{FieldDecl}
use Rattle.jl_class.specs.declared.member.MethodDecl.{MethodDecl}
use Rattle.jl_class.specs.declared.nests.Nests.{Nests}
use Rattle.jl_class.specs.Classes.{Class}
use Rattle.jl_class.specs.Faults.{short, pool_or}
use Rattle.jl_class.specs.Meaning.{is_interface, is_final, are_class_flags, super_named, may_extend, is_of_modules}
use Rattle.jl_class.specs.Spelling.{IsClass, HaveNests, IsHost, AreClasses, names_form, member_bytes}
use Rattle.jl_class.specs.Reading.{outside_or, class_pool_at, flags_at, named_at, super_at, interfaces_at, fields_at, methods_at, nests_at, class_of}
use Rattle.jl_reading.proofs.Standing.{join, first, second, ends_at}
use Rattle.jl_reading.proofs.Tables.{EntryStands, EntryReads, Table, table_stands, table_reads}
use Rattle.jl_class.proofs.MethodLaws.{flags_stand, flags_read, Named, name_stands, name_reads, fields_stand, fields_read, methods_stand, methods_read}
use Rattle.jl_class.proofs.NestLaws.{NestParts, nests_stand, nests_again}

-- ---- the pool

pool_ok : {A : Type 0} (r : Result A PoolFault) (x : A) → pool_or r ≡ Ok x → r ≡ Ok x
pool_ok (Ok y) x e = ap (λ z. Ok z) (ok_is y x e)
pool_ok (Err f) x e = absurd cc

outside_ok : (o : Option ℕ) (read x : List Entry × ℕ) → outside_or o read ≡ Ok x → (o ≡ None) × (read ≡ x)
outside_ok None read x e = (refl, ok_is read x e)
outside_ok (Some i) read x e = absurd cc

record Pooled (bytes : List ℕ) (at : ℕ) (x : List Entry × ℕ) : Type 0 where
  stands : StandsPool bytes at x.0 x.1
  inside : position is_of_modules x.0 ≡ None

class_pool_stands : (bytes : List ℕ) (at : ℕ) (x : List Entry × ℕ) → IsBytes bytes → class_pool_at bytes at ≡ Ok x → Pooled bytes at x
unfolding class_pool_at
class_pool_stands bytes at x b e =
    let s = bind_ok (pool_or (pool_at bytes at)) _ x e in
    let o = outside_ok (position is_of_modules s.0.0) s.0 x s.2 in
    subst (Pooled bytes at) o.1 (record { stands = pool_stands bytes at s.0.0 s.0.1 b (pool_ok (pool_at bytes at) s.0 s.1); inside = o.0 })

class_pool_reads : (bytes : List ℕ) (at : ℕ) (pool : List Entry) (next : ℕ) → StandsPool bytes at pool next → position is_of_modules pool ≡ None → class_pool_at bytes at ≡ Ok (pool, next)
unfolding class_pool_at
class_pool_reads bytes at pool next s inside = rw (pool_again bytes at pool next s, inside) refl

-- ---- the superclass and the interfaces

record Extended (flags : ℕ) (name : List ℕ) (pool : List Entry) (bytes : List ℕ) (at : ℕ) (x : Option (List ℕ) × ℕ) : Type 0 where
  named : Named (super_named pool) bytes at x
  right : IsTrue (may_extend flags name x.0)

super_stands : (flags : ℕ) (name : List ℕ) (pool : List Entry) (bytes : List ℕ) (at : ℕ) (x : Option (List ℕ) × ℕ) → IsBytes bytes → super_at flags name pool bytes at ≡ Ok x → Extended flags name pool bytes at x
unfolding super_at
super_stands flags name pool bytes at x b e =
    let s = bind_ok (named_at (super_named pool) bytes at) _ x e in
    let g = else_ok (may_extend flags name s.0.0) (faults.Name at) (Ok s.0) x s.2 in
    subst (Extended flags name pool bytes at) (ok_is _ _ g.1) (record { named = name_stands (super_named pool) bytes at s.0 b s.1; right = g.0 })

super_reads : (flags : ℕ) (name : List ℕ) (pool : List Entry) (bytes : List ℕ) (at index next : ℕ) (super : Option (List ℕ)) → HasName (super_named pool) index super → IsTrue (may_extend flags name super)
    → Stands bytes at (two index) next → super_at flags name pool bytes at ≡ Ok (super, next)
unfolding super_at
super_reads flags name pool bytes at index next super h right s = bind_to _ (name_reads (super_named pool) bytes at index next super h.0 h.1 s) (rw right refl)

abbrev Anything : List (List ℕ) → List ℕ → Type 0
Anything done name = ⊤

interface_stands : (pool : List Entry) (bytes : List ℕ) → IsBytes bytes → EntryStands bytes two (HasName (class_named pool)) Anything (λ done. named_at (class_named pool) bytes)
interface_stands pool bytes b done at x e = let n = name_stands (class_named pool) bytes at x b e in record { row = n.index; is = n.is; stands = n.stands; fresh = tt }

interface_reads : (pool : List Entry) (bytes : List ℕ) → EntryReads bytes two (HasName (class_named pool)) Anything (λ done. named_at (class_named pool) bytes)
interface_reads pool bytes done at next index name h s fresh = name_reads (class_named pool) bytes at index next name h.0 h.1 s

interfaces_stand : (pool : List Entry) (bytes : List ℕ) (at : ℕ) (x : List (List ℕ) × ℕ) → IsBytes bytes → interfaces_at pool bytes at ≡ Ok x → Table bytes two (HasName (class_named pool)) Anything at x
unfolding interfaces_at
interfaces_stand pool bytes at x b e = table_stands short bytes two (HasName (class_named pool)) Anything (λ done. named_at (class_named pool) bytes) (interface_stands pool bytes b) at x b e

all_along : (done names : List (List ℕ)) → Along Anything done names
all_along done [] = tt
all_along done (n ∷ ns) = (tt, all_along (done ++ n ∷ []) ns)

-- ---- the nest of a class

-- a class with these attributes has these nests
nests_in : (c : Class) (attributes : List Attribute) (n : Nests) → c.nest_host ≡ n.host → c.nest_members ≡ n.members → c.permits ≡ n.permits → NestParts c.major c.flags c.pool attributes n → HaveNests c attributes
nests_in c attributes n h m p parts = record {
  host = subst (λ o. AtMostOne (IsHost c.pool) (contents c.pool (names_form c.major forms.Host) attributes) o) (sym h) parts.host;
  members = parts.members;
  listed = parts.listed;
  members_are = m ∙ parts.members_are;
  apart = subst (λ o. is_some o && is_some parts.members ≡ false) (sym h) parts.apart;
  record_kept = parts.record_kept;
  components = parts.components;
  permits = subst (λ o. AtMostOne (AreClasses c.pool) (contents c.pool (names_form c.major forms.Permits) attributes) o) (sym p) parts.permits;
  extended = subst (λ o. is_some o && is_final c.flags ≡ false) (sym p) parts.extended;
}

nests_out : (c : Class) (attributes : List Attribute) → HaveNests c attributes → NestParts c.major c.flags c.pool attributes (record { host = c.nest_host; members = c.nest_members; permits = c.permits })
nests_out c attributes h = record {
  host = h.host;
  members = h.members;
  listed = h.listed;
  members_are = h.members_are;
  apart = h.apart;
  record_kept = h.record_kept;
  components = h.components;
  permits = h.permits;
  extended = h.extended;
}

-- ---- the whole file

abbrev pub class_with : ℕ × ℕ → ℕ → List ℕ → Option (List ℕ) → List (List ℕ) → List FieldDecl → List MethodDecl → Nests → List Entry → Class
class_with version flags name super interfaces fields methods nests pool = record {
  major = version.0;
  minor = version.1;
  flags = flags;
  name = name;
  super_name = super;
  interfaces = interfaces;
  fields = fields;
  methods = methods;
  nest_host = nests.host;
  nest_members = nests.members;
  permits = nests.permits;
  pool = pool;
}

-- a file whose parts were read declares what they say
class_made : (bytes : List ℕ) → IsBytes bytes → (version : ℕ × ℕ) (a1 : ℕ) (pool : List Entry) (a2 flags a3 : ℕ) (name : List ℕ) (a4 : ℕ) (super : Option (List ℕ)) (a5 : ℕ) (interfaces : List (List ℕ)) (a6 : ℕ)
    (fields : List FieldDecl) (a7 : ℕ) (methods : List MethodDecl) (a8 : ℕ) (nests : Nests) (a9 : ℕ)
    → front_at short faults.Magic faults.Version bytes 0 ≡ Ok (version, a1) → class_pool_at bytes a1 ≡ Ok (pool, a2) → flags_at are_class_flags bytes a2 ≡ Ok (flags, a3) → named_at (class_named pool) bytes a3 ≡ Ok (name, a4)
    → super_at flags name pool bytes a4 ≡ Ok (super, a5) → interfaces_at pool bytes a5 ≡ Ok (interfaces, a6) → fields_at (is_interface flags) pool bytes a6 ≡ Ok (fields, a7)
    → methods_at pool bytes a7 ≡ Ok (methods, a8) → nests_at version.0 flags pool bytes a8 ≡ Ok (nests, a9) → a9 ≡ length bytes
    → IsClass bytes (class_with version flags name super interfaces fields methods nests pool)
class_made bytes b version a1 pool a2 flags a3 name a4 super a5 interfaces a6 fields a7 methods a8 nests a9 e1 e2 e3 e4 e5 e6 e7 e8 e9 end =
    let t1 = front_stands short faults.Magic faults.Version bytes 0 (version, a1) b e1 in
    let at : a1 ≡ 8 = t1.stands.ends in
    let t2 = class_pool_stands bytes a1 (pool, a2) b e2 in
    let t3 = flags_stand are_class_flags bytes a2 (flags, a3) b e3 in
    let t4 = name_stands (class_named pool) bytes a3 (name, a4) b e4 in
    let t5 = super_stands flags name pool bytes a4 (super, a5) b e5 in
    let t6 = interfaces_stand pool bytes a5 (interfaces, a6) b e6 in
    let t7 = fields_stand (is_interface flags) pool bytes a6 (fields, a7) b e7 in
    let t8 = methods_stand pool bytes a7 (methods, a8) b e8 in
    let t9 = nests_stand version.0 flags pool bytes a8 (nests, a9) b e9 in
    let last = ends_at (length bytes) end t9.stands in
    record {
      parts = record { this = t4.index; super = t5.named.index; interfaces = t6.rows; fields = t7.rows; methods = t8.rows; attributes = t9.attributes };
      pool_end = a2;
      minor = t1.minor;
      version = t1.version;
      front = ends_at 8 at t1.stands;
      pool = subst (λ k. StandsPool bytes k pool a2) at t2.stands;
      inside = t2.inside;
      back = join t3.number.stands (join t4.stands (join t5.named.stands (join t6.stands (join t7.stands (join t8.stands last)))));
      declares = record {
        flags = t3.number.small;
        flagged = t3.right;
        this = t4.is;
        super = t5.named.is;
        extends = t5.right;
        few = t6.few;
        interfaces = t6.each;
        fields = t7.table;
        methods = t8.table;
        attributes = t9.are;
        nests = nests_in (class_with version flags name super interfaces fields methods nests pool) t9.attributes nests refl refl refl t9.parts;
      };
    }

pub class_stands : (bytes : List ℕ) (c : Class) → IsBytes bytes → class_of bytes ≡ Ok c → IsClass bytes c
unfolding class_of
class_stands bytes c b e =
    let s1 = bind_ok (front_at short faults.Magic faults.Version bytes 0) _ c e in
    let s2 = bind_ok (class_pool_at bytes s1.0.1) _ c s1.2 in
    let s3 = bind_ok (flags_at are_class_flags bytes s2.0.1) _ c s2.2 in
    let s4 = bind_ok (named_at (class_named s2.0.0) bytes s3.0.1) _ c s3.2 in
    let s5 = bind_ok (super_at s3.0.0 s4.0.0 s2.0.0 bytes s4.0.1) _ c s4.2 in
    let s6 = bind_ok (interfaces_at s2.0.0 bytes s5.0.1) _ c s5.2 in
    let s7 = bind_ok (fields_at (is_interface s3.0.0) s2.0.0 bytes s6.0.1) _ c s6.2 in
    let s8 = bind_ok (methods_at s2.0.0 bytes s7.0.1) _ c s7.2 in
    let s9 = bind_ok (nests_at s1.0.0.0 s3.0.0 s2.0.0 bytes s8.0.1) _ c s8.2 in
    let made = class_with s1.0.0 s3.0.0 s4.0.0 s5.0.0 s6.0.0 s7.0.0 s8.0.0 s9.0.0 s2.0.0 in
    let g = else_ok (eqb s9.0.1 (length bytes)) faults.Trailing (Ok made) c s9.2 in
    subst (IsClass bytes) (ok_is made c g.1) (class_made bytes b s1.0.0 s1.0.1 s2.0.0 s2.0.1 s3.0.0 s3.0.1 s4.0.0 s4.0.1 s5.0.0 s5.0.1 s6.0.0 s6.0.1 s7.0.0 s7.0.1 s8.0.0 s8.0.1 s9.0.0 s9.0.1
    s1.1 s2.1 s3.1 s4.1 s5.1 s6.1 s7.1 s8.1 s9.1 (eqb-true s9.0.1 (length bytes) g.0))

-- a file whose parts are read one after the other
pub whole_read : (bytes : List ℕ) (version : ℕ × ℕ) (a1 : ℕ) (pool : List Entry) (a2 flags a3 : ℕ) (name : List ℕ) (a4 : ℕ) (super : Option (List ℕ)) (a5 : ℕ) (interfaces : List (List ℕ)) (a6 : ℕ)
    (fields : List FieldDecl) (a7 : ℕ) (methods : List MethodDecl) (a8 : ℕ) (nests : Nests) (a9 : ℕ)
    → front_at short faults.Magic faults.Version bytes 0 ≡ Ok (version, a1) → class_pool_at bytes a1 ≡ Ok (pool, a2) → flags_at are_class_flags bytes a2 ≡ Ok (flags, a3) → named_at (class_named pool) bytes a3 ≡ Ok (name, a4)
    → super_at flags name pool bytes a4 ≡ Ok (super, a5) → interfaces_at pool bytes a5 ≡ Ok (interfaces, a6) → fields_at (is_interface flags) pool bytes a6 ≡ Ok (fields, a7)
    → methods_at pool bytes a7 ≡ Ok (methods, a8) → nests_at version.0 flags pool bytes a8 ≡ Ok (nests, a9) → a9 ≡ length bytes
    → class_of bytes ≡ Ok (class_with version flags name super interfaces fields methods nests pool)
unfolding class_of
whole_read bytes version a1 pool a2 flags a3 name a4 super a5 interfaces a6 fields a7 methods a8 nests a9 e1 e2 e3 e4 e5 e6 e7 e8 e9 end =
    bind_to _ e1 (bind_to _ e2 (bind_to _ e3 (bind_to _ e4 (bind_to _ e5 (bind_to _ e6 (bind_to _ e7 (bind_to _ e8 (bind_to _ e9 (rw (eq-eqb a9 (length bytes) end) refl)))))))))

-- likewise, where each part is read from bytes that are the same
pub whole_from : (bytes b0 b1 b2 b3 b4 b5 b6 b7 b8 b9 : List ℕ) (a0 : ℕ) (version : ℕ × ℕ) (a1 : ℕ) (pool : List Entry) (a2 flags a3 : ℕ) (name : List ℕ) (a4 : ℕ) (super : Option (List ℕ)) (a5 : ℕ) (interfaces : List (List ℕ)) (a6 : ℕ)
    (fields : List FieldDecl) (a7 : ℕ) (methods : List MethodDecl) (a8 : ℕ) (nests : Nests) (a9 : ℕ)
    → b0 ≡ bytes → a0 ≡ 0 → b1 ≡ b0 → b2 ≡ b1 → b3 ≡ b2 → b4 ≡ b3 → b5 ≡ b4 → b6 ≡ b5 → b7 ≡ b6 → b8 ≡ b7 → b9 ≡ b8
    → front_at short faults.Magic faults.Version b0 a0 ≡ Ok (version, a1) → class_pool_at b1 a1 ≡ Ok (pool, a2) → flags_at are_class_flags b2 a2 ≡ Ok (flags, a3) → named_at (class_named pool) b3 a3 ≡ Ok (name, a4)
    → super_at flags name pool b4 a4 ≡ Ok (super, a5) → interfaces_at pool b5 a5 ≡ Ok (interfaces, a6) → fields_at (is_interface flags) pool b6 a6 ≡ Ok (fields, a7)
    → methods_at pool b7 a7 ≡ Ok (methods, a8) → nests_at version.0 flags pool b8 a8 ≡ Ok (nests, a9) → a9 ≡ length b9
    → class_of bytes ≡ Ok (class_with version flags name super interfaces fields methods nests pool)
whole_from bytes b0 b1 b2 b3 b4 b5 b6 b7 b8 b9 a0 version a1 pool a2 flags a3 name a4 super a5 interfaces a6 fields a7 methods a8 nests a9 q0 z q1 q2 q3 q4 q5 q6 q7 q8 q9 e1 e2 e3 e4 e5 e6 e7 e8 e9 end =
    let p1 = q1 ∙ q0 in
    let p2 = q2 ∙ p1 in
    let p3 = q3 ∙ p2 in
    let p4 = q4 ∙ p3 in
    let p5 = q5 ∙ p4 in
    let p6 = q6 ∙ p5 in
    let p7 = q7 ∙ p6 in
    let p8 = q8 ∙ p7 in
    let p9 = q9 ∙ p8 in
    whole_read bytes version a1 pool a2 flags a3 name a4 super a5 interfaces a6 fields a7 methods a8 nests a9
    (subst (λ (x : List ℕ × ℕ). front_at short faults.Magic faults.Version x.0 x.1 ≡ Ok (version, a1)) (λ i. (q0 i, z i)) e1)
    (subst (λ b. class_pool_at b a1 ≡ Ok (pool, a2)) p1 e2)
    (subst (λ b. flags_at are_class_flags b a2 ≡ Ok (flags, a3)) p2 e3)
    (subst (λ b. named_at (class_named pool) b a3 ≡ Ok (name, a4)) p3 e4)
    (subst (λ b. super_at flags name pool b a4 ≡ Ok (super, a5)) p4 e5)
    (subst (λ b. interfaces_at pool b a5 ≡ Ok (interfaces, a6)) p5 e6)
    (subst (λ b. fields_at (is_interface flags) pool b a6 ≡ Ok (fields, a7)) p6 e7)
    (subst (λ b. methods_at pool b a7 ≡ Ok (methods, a8)) p7 e8)
    (subst (λ b. nests_at version.0 flags pool b a8 ≡ Ok (nests, a9)) p8 e9)
    (end ∙ ap (λ (b : List ℕ). length b) p9)

pub class_reads : (bytes : List ℕ) (c : Class) → IsClass bytes c → class_of bytes ≡ Ok c
unfolding class_of interfaces_at
class_reads bytes c i =
    let p = i.parts in
    let d = i.declares in
    let pool = c.pool in
    let end = length bytes in
    let attributes = counted attribute_bytes p.attributes in
    let methods = counted member_bytes p.methods in
    let fields = counted member_bytes p.fields in
    let interfaces = counted two p.interfaces in
    let s3 = first (two c.flags) (two p.this ++ (two p.super ++ (interfaces ++ (fields ++ (methods ++ attributes))))) i.back in
    let r3 = second (two c.flags) (two p.this ++ (two p.super ++ (interfaces ++ (fields ++ (methods ++ attributes))))) i.back in
    let s4 = first (two p.this) (two p.super ++ (interfaces ++ (fields ++ (methods ++ attributes)))) r3 in
    let r4 = second (two p.this) (two p.super ++ (interfaces ++ (fields ++ (methods ++ attributes)))) r3 in
    let s5 = first (two p.super) (interfaces ++ (fields ++ (methods ++ attributes))) r4 in
    let r5 = second (two p.super) (interfaces ++ (fields ++ (methods ++ attributes))) r4 in
    let s6 = first interfaces (fields ++ (methods ++ attributes)) r5 in
    let r6 = second interfaces (fields ++ (methods ++ attributes)) r5 in
    let s7 = first fields (methods ++ attributes) r6 in
    let r7 = second fields (methods ++ attributes) r6 in
    let s8 = first methods attributes r7 in
    let s9 = second methods attributes r7 in
    let p3 = i.pool_end + 2 in
    let p4 = p3 + 2 in
    let p5 = p4 + 2 in
    let p6 = p5 + length interfaces in
    let p7 = p6 + length fields in
    let p8 = p7 + length methods in
    let t1 = front_reads short faults.Magic faults.Version bytes 0 c.major c.minor 8 (record { minor = i.minor; stands = i.front; version = i.version }) in
    let t2 = class_pool_reads bytes 8 pool i.pool_end i.pool i.inside in
    let t3 = flags_read are_class_flags bytes i.pool_end c.flags p3 d.flags d.flagged s3 in
    let t4 = name_reads (class_named pool) bytes p3 p.this p4 c.name d.this.0 d.this.1 s4 in
    let t5 = super_reads c.flags c.name pool bytes p4 p.super p5 c.super_name d.super d.extends s5 in
    let t6 = table_reads short bytes two (HasName (class_named pool)) Anything (λ done. named_at (class_named pool) bytes) (interface_reads pool bytes) p5 p6 p.interfaces c.interfaces d.few d.interfaces (all_along [] c.interfaces) s6 in
    let t7 = fields_read (is_interface c.flags) pool bytes p6 p7 p.fields c.fields d.fields s7 in
    let t8 = methods_read pool bytes p7 p8 p.methods c.methods d.methods s8 in
    let t9 = nests_again c.major c.flags pool bytes p8 end p.attributes (record { host = c.nest_host; members = c.nest_members; permits = c.permits }) (nests_out c p.attributes d.nests) d.attributes s9 in
    bind_to _ t1 (bind_to _ t2 (bind_to _ t3 (bind_to _ t4 (bind_to _ t5 (bind_to _ t6 (bind_to _ t7 (bind_to _ t8 (bind_to _ t9 (rw (eq-eqb end end refl) refl)))))))))

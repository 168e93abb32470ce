-- Fields and methods: what is read stands there, and what stands there is read (JVMS 4.5, 4.6).
use Rattle.std.proofs.Common.{◌≡◌, ℕ, ◌+◌, ◌<◌, List, [], ◌++◌, map, Bool, true, false, not, Option, None, Some, Ok, refl, sym, ap, ◌∙◌, subst}
use Rattle.std.specs.Prelude.{◌&&◌, is_some, IsTrue}
use Rattle.jl_reading.specs.Reading.{Stands, IsBytes, number_at, two, counted}
use Rattle.jl_reading.proofs.Steps.{bind_ok, guard_ok, ok_is, bind_to, else_ok}
use Rattle.jl_names.specs.Names.{names_a_field}
use Rattle.jl_pool.specs.declared.entry.Entry.{Entry}
use Rattle.jl_class.specs.declared.fault.ClassFault.TheVariants as faults
use Rattle.jl_class.specs.declared.member.CodeBytes.{CodeBytes}
use Rattle.jl_class.specs.declared.member.FieldDecl.{FieldDecl}
use Rattle.jl_class.specs.declared.member.MethodDecl.{MethodDecl}
use Rattle.jl_class.specs.declared.member.MemberKey.{MemberKey}
use Rattle.jl_class.specs.Faults.{short, name_or}
use Rattle.jl_class.specs.Meaning.{are_field_flags, are_method_flags, has_code, names_method_with, describes_a_field, describes_method_with, field_key, method_key, is_member_among, names_constant_value, names_code}
use Rattle.jl_pool.specs.Pool.{text_that}
use Rattle.jl_class.specs.Spelling.{Member, IsConstant, IsCode, IsField, IsMethod, member_bytes}
use Rattle.jl_class.specs.Reading.{flags_at, named_at, in_file, constant_at, constants_at, code_at, codes_at, field_at, fields_at, method_at, methods_at}
use Rattle.jl_reading.proofs.Standing.{Number, number_in, number_read, join, first, second}
use Rattle.jl_reading.proofs.Tables.{Row, EntryStands, EntryReads, Table, table_stands, table_reads}
use Rattle.jl_optable.specs.declared.attributes.AttrForm.TheVariants as forms
use Rattle.jl_classfile.specs.Spelling.{IsTable, HasName, attribute_bytes}
use Rattle.jl_class.proofs.AttributeLaws.{AllStand, one_stands, one_again}
use Rattle.jl_class.proofs.ContentLaws.{constant_laws, code_laws}
use Rattle.jl_class.proofs.MemberLaws.{Apart, along_distinct, distinct_along}

-- ---- flags and names

pub record Flagged (are_right : ℕ → Bool) (bytes : List ℕ) (at : ℕ) (x : ℕ × ℕ) : Type 0 where
  pub number : Number 2 bytes at x.0 x.1
  pub right : IsTrue (are_right x.0)

pub flags_stand : (are_right : ℕ → Bool) (bytes : List ℕ) (at : ℕ) (x : ℕ × ℕ) → IsBytes bytes → flags_at are_right bytes at ≡ Ok x → Flagged are_right bytes at x
unfolding flags_at
flags_stand are_right bytes at x b e =
    let s = bind_ok (number_at short 2 bytes at) _ x e in
    let g = else_ok (are_right s.0.0) (faults.Flags at) (Ok s.0) x s.2 in
    subst (Flagged are_right bytes at) (ok_is _ _ g.1) (record { number = number_in short 2 bytes at s.0 b s.1; right = g.0 })

pub flags_read : (are_right : ℕ → Bool) (bytes : List ℕ) (at flags next : ℕ) → flags < 65536 → are_right flags ≡ true → Stands bytes at (two flags) next → flags_at are_right bytes at ≡ Ok (flags, next)
unfolding flags_at
flags_read are_right bytes at flags next small right s = bind_to _ (number_read short 2 bytes at flags next small s) (rw right refl)

name_ok : {A : Type 0} (at : ℕ) (o : Option A) (x : A) → name_or at o ≡ Ok x → o ≡ Some x
name_ok at None x e = absurd cc
name_ok at (Some y) x e = ap (λ z. Some z) (ok_is y x e)

pub record Named {A : Type 0} (named : ℕ → Option A) (bytes : List ℕ) (at : ℕ) (x : A × ℕ) : Type 0 where
  pub index : ℕ
  pub is : HasName named index x.0
  pub stands : Stands bytes at (two index) x.1

pub name_stands : {A : Type 0} (named : ℕ → Option A) (bytes : List ℕ) (at : ℕ) (x : A × ℕ) → IsBytes bytes → named_at named bytes at ≡ Ok x → Named named bytes at x
unfolding named_at
name_stands named bytes at x b e =
    let s1 = bind_ok (number_at short 2 bytes at) _ x e in
    let s2 = bind_ok (name_or at (named s1.0.0)) _ x s1.2 in
    let n = number_in short 2 bytes at s1.0 b s1.1 in
    let is : (s2.0, s1.0.1) ≡ x = ok_is _ _ s2.2 in
    subst (Named named bytes at) is (record {
      index = s1.0.0;
      is = (n.small, name_ok at (named s1.0.0) s2.0 s2.1);
      stands = n.stands;
    })

pub name_reads : {A : Type 0} (named : ℕ → Option A) (bytes : List ℕ) (at index next : ℕ) (name : A) → index < 65536 → named index ≡ Some name → Stands bytes at (two index) next → named_at named bytes at ≡ Ok (name, next)
unfolding named_at
name_reads named bytes at index next name small is s = bind_to _ (number_read short 2 bytes at index next small s) (rw is refl)

-- ---- fields

constants_stand : (flags : ℕ) (desc : List ℕ) (pool : List Entry) (bytes : List ℕ) (at : ℕ) (x : Option ℕ × ℕ) → IsBytes bytes → constants_at flags desc pool bytes at ≡ Ok x
    → AllStand (IsConstant flags desc pool) names_constant_value true pool bytes at x
unfolding constants_at
constants_stand flags desc pool bytes at x b e =
    one_stands short names_constant_value forms.ConstantIndex in_file true (constant_at flags desc pool) (IsConstant flags desc pool) (constant_laws flags desc pool) pool bytes at x b e

field_stands : (in_interface : Bool) (pool : List Entry) (bytes : List ℕ) → IsBytes bytes → EntryStands bytes member_bytes (IsField in_interface pool) (Apart field_key) (field_at in_interface pool bytes)
unfolding field_at
field_stands in_interface pool bytes b done at x e =
    let s1 = bind_ok (flags_at (are_field_flags in_interface) bytes at) _ x e in
    let s2 = bind_ok (named_at (text_that names_a_field pool) bytes s1.0.1) _ x s1.2 in
    let s3 = bind_ok (named_at (text_that describes_a_field pool) bytes s2.0.1) _ x s2.2 in
    let g = guard_ok (is_member_among (record { name = s2.0.0; desc = s3.0.0 }) (map field_key done)) (faults.RepeatedMember s2.0.0) _ x s3.2 in
    let s4 = bind_ok (constants_at s1.0.0 s3.0.0 pool bytes s3.0.1) _ x g.1 in
    let f = flags_stand (are_field_flags in_interface) bytes at s1.0 b s1.1 in
    let n = name_stands (text_that names_a_field pool) bytes s1.0.1 s2.0 b s2.1 in
    let d = name_stands (text_that describes_a_field pool) bytes s2.0.1 s3.0 b s3.1 in
    let a = constants_stand s1.0.0 s3.0.0 pool bytes s3.0.1 s4.0 b s4.1 in
    subst (Row bytes member_bytes (IsField in_interface pool) (Apart field_key) done at) (ok_is _ _ s4.2) (record {
      row = record { flags = s1.0.0; name = n.index; desc = d.index; attributes = a.attributes };
      is = record {
        fits = record { flags = f.number.small; name = n.is.0; desc = d.is.0; attributes = a.are };
        flags = refl;
        flagged = f.right;
        named = n.is.1;
        described = d.is.1;
        constant = a.declared.one;
      };
      stands = join f.number.stands (join n.stands (join d.stands a.stands));
      fresh = g.0;
    })

field_reads : (in_interface : Bool) (pool : List Entry) (bytes : List ℕ) → EntryReads bytes member_bytes (IsField in_interface pool) (Apart field_key) (field_at in_interface pool bytes)
unfolding field_at constants_at
field_reads in_interface pool bytes done at next row f is s fresh =
    let attributes = counted attribute_bytes row.attributes in
    let s1 = first (two row.flags) (two row.name ++ (two row.desc ++ attributes)) s in
    let r1 = second (two row.flags) (two row.name ++ (two row.desc ++ attributes)) s in
    let s2 = first (two row.name) (two row.desc ++ attributes) r1 in
    let r2 = second (two row.name) (two row.desc ++ attributes) r1 in
    let s3 = first (two row.desc) attributes r2 in
    let s4 = second (two row.desc) attributes r2 in
    let t1 = flags_read (are_field_flags in_interface) bytes at f.flags (at + 2) (subst (λ k. k < 65536) (sym is.flags) is.fits.flags) is.flagged (subst (λ k. Stands bytes at (two k) (at + 2)) (sym is.flags) s1) in
    let t2 = name_reads (text_that names_a_field pool) bytes (at + 2) row.name (at + 2 + 2) f.name is.fits.name is.named s2 in
    let t3 = name_reads (text_that describes_a_field pool) bytes (at + 2 + 2) row.desc (at + 2 + 2 + 2) f.desc is.fits.desc is.described s3 in
    let t4 = one_again short names_constant_value forms.ConstantIndex in_file true (constant_at f.flags f.desc pool) (IsConstant f.flags f.desc pool) (constant_laws f.flags f.desc pool) pool bytes (at + 2 + 2 + 2) next row.attributes f.constant
    (record { one = is.constant; allowed = λ _. refl }) is.fits.attributes s4 in
    bind_to _ t1 (bind_to _ t2 (bind_to _ t3 (rw fresh (bind_to _ t4 refl))))

-- ---- methods

codes_stand : (flags : ℕ) (pool : List Entry) (bytes : List ℕ) (at : ℕ) (x : Option CodeBytes × ℕ) → IsBytes bytes → codes_at flags pool bytes at ≡ Ok x → AllStand (IsCode pool) names_code (has_code flags) pool bytes at x
unfolding codes_at
codes_stand flags pool bytes at x b e = one_stands short names_code forms.CodeBody in_file (has_code flags) (code_at pool) (IsCode pool) (code_laws pool) pool bytes at x b e

exactly : {V : Type 0} (o : Option V) (has : Bool) → (is_some o ≡ true → has ≡ true) → (has && not (is_some o)) ≡ false → is_some o ≡ has
exactly None true h e = absurd cc
exactly None false h e = refl
exactly (Some v) has h e = sym (h refl)

none_lacks : {V : Type 0} (o : Option V) (has : Bool) → is_some o ≡ has → (has && not (is_some o)) ≡ false
none_lacks None has e = rw (← e) refl
none_lacks (Some v) has e = rw (← e) refl

method_stands : (pool : List Entry) (bytes : List ℕ) → IsBytes bytes → EntryStands bytes member_bytes (IsMethod pool) (Apart method_key) (method_at pool bytes)
unfolding method_at
method_stands pool bytes b done at x e =
    let s1 = bind_ok (flags_at are_method_flags bytes at) _ x e in
    let s2 = bind_ok (named_at (text_that (names_method_with s1.0.0) pool) bytes s1.0.1) _ x s1.2 in
    let s3 = bind_ok (named_at (text_that (describes_method_with s2.0.0) pool) bytes s2.0.1) _ x s2.2 in
    let g = guard_ok (is_member_among (record { name = s2.0.0; desc = s3.0.0 }) (map method_key done)) (faults.RepeatedMember s2.0.0) _ x s3.2 in
    let s4 = bind_ok (codes_at s1.0.0 pool bytes s3.0.1) _ x g.1 in
    let h = guard_ok (has_code s1.0.0 && not (is_some s4.0.0)) (faults.Attribute s4.0.1) _ x s4.2 in
    let f = flags_stand are_method_flags bytes at s1.0 b s1.1 in
    let n = name_stands (text_that (names_method_with s1.0.0) pool) bytes s1.0.1 s2.0 b s2.1 in
    let d = name_stands (text_that (describes_method_with s2.0.0) pool) bytes s2.0.1 s3.0 b s3.1 in
    let a = codes_stand s1.0.0 pool bytes s3.0.1 s4.0 b s4.1 in
    subst (Row bytes member_bytes (IsMethod pool) (Apart method_key) done at) (ok_is _ _ h.1) (record {
      row = record { flags = s1.0.0; name = n.index; desc = d.index; attributes = a.attributes };
      is = record {
        fits = record { flags = f.number.small; name = n.is.0; desc = d.is.0; attributes = a.are };
        flags = refl;
        flagged = f.right;
        named = n.is.1;
        described = d.is.1;
        code = a.declared.one;
        has = exactly s4.0.0 (has_code s1.0.0) a.declared.allowed h.0;
      };
      stands = join f.number.stands (join n.stands (join d.stands a.stands));
      fresh = g.0;
    })

method_reads : (pool : List Entry) (bytes : List ℕ) → EntryReads bytes member_bytes (IsMethod pool) (Apart method_key) (method_at pool bytes)
unfolding method_at codes_at
method_reads pool bytes done at next row m is s fresh =
    let attributes = counted attribute_bytes row.attributes in
    let s1 = first (two row.flags) (two row.name ++ (two row.desc ++ attributes)) s in
    let r1 = second (two row.flags) (two row.name ++ (two row.desc ++ attributes)) s in
    let s2 = first (two row.name) (two row.desc ++ attributes) r1 in
    let r2 = second (two row.name) (two row.desc ++ attributes) r1 in
    let s3 = first (two row.desc) attributes r2 in
    let s4 = second (two row.desc) attributes r2 in
    let t1 = flags_read are_method_flags bytes at m.flags (at + 2) (subst (λ k. k < 65536) (sym is.flags) is.fits.flags) is.flagged (subst (λ k. Stands bytes at (two k) (at + 2)) (sym is.flags) s1) in
    let t2 = name_reads (text_that (names_method_with m.flags) pool) bytes (at + 2) row.name (at + 2 + 2) m.name is.fits.name is.named s2 in
    let t3 = name_reads (text_that (describes_method_with m.name) pool) bytes (at + 2 + 2) row.desc (at + 2 + 2 + 2) m.desc is.fits.desc is.described s3 in
    let t4 = one_again short names_code forms.CodeBody in_file (has_code m.flags) (code_at pool) (IsCode pool) (code_laws pool) pool bytes (at + 2 + 2 + 2) next row.attributes m.code
    (record { one = is.code; allowed = λ some. sym is.has ∙ some }) is.fits.attributes s4 in
    bind_to _ t1 (bind_to _ t2 (bind_to _ t3 (rw fresh (bind_to _ t4 (rw (none_lacks m.code (has_code m.flags) is.has) refl)))))

-- ---- their tables

pub record Members {B : Type 0} (bytes : List ℕ) (R : Member → B → Type 0) (key : B → MemberKey) (at : ℕ) (x : List B × ℕ) : Type 0 where
  pub rows : List Member
  pub table : IsTable R key rows x.0
  pub stands : Stands bytes at (counted member_bytes rows) x.1

members_of : {B : Type 0} (bytes : List ℕ) (R : Member → B → Type 0) (key : B → MemberKey) (at : ℕ) (x : List B × ℕ) → Table bytes member_bytes R (Apart key) at x → Members bytes R key at x
members_of bytes R key at x t = record {
  rows = t.rows;
  table = record { few = t.few; each = t.each; distinct = along_distinct key [] x.0 t.along tt };
  stands = t.stands;
}

pub fields_stand : (in_interface : Bool) (pool : List Entry) (bytes : List ℕ) (at : ℕ) (x : List FieldDecl × ℕ) → IsBytes bytes → fields_at in_interface pool bytes at ≡ Ok x → Members bytes (IsField in_interface pool) field_key at x
unfolding fields_at
fields_stand in_interface pool bytes at x b e =
    members_of bytes (IsField in_interface pool) field_key at x (table_stands short bytes member_bytes (IsField in_interface pool) (Apart field_key) (field_at in_interface pool bytes) (field_stands in_interface pool bytes b) at x b e)

pub fields_read : (in_interface : Bool) (pool : List Entry) (bytes : List ℕ) (at next : ℕ) (rows : List Member) (fs : List FieldDecl) → IsTable (IsField in_interface pool) field_key rows fs → Stands bytes at (counted member_bytes rows) next
    → fields_at in_interface pool bytes at ≡ Ok (fs, next)
unfolding fields_at
fields_read in_interface pool bytes at next rows fs t s =
    table_reads short bytes member_bytes (IsField in_interface pool) (Apart field_key) (field_at in_interface pool bytes) (field_reads in_interface pool bytes) at next rows fs t.few t.each (distinct_along field_key [] fs t.distinct) s

pub methods_stand : (pool : List Entry) (bytes : List ℕ) (at : ℕ) (x : List MethodDecl × ℕ) → IsBytes bytes → methods_at pool bytes at ≡ Ok x → Members bytes (IsMethod pool) method_key at x
unfolding methods_at
methods_stand pool bytes at x b e =
    members_of bytes (IsMethod pool) method_key at x (table_stands short bytes member_bytes (IsMethod pool) (Apart method_key) (method_at pool bytes) (method_stands pool bytes b) at x b e)

pub methods_read : (pool : List Entry) (bytes : List ℕ) (at next : ℕ) (rows : List Member) (ms : List MethodDecl) → IsTable (IsMethod pool) method_key rows ms → Stands bytes at (counted member_bytes rows) next
    → methods_at pool bytes at ≡ Ok (ms, next)
unfolding methods_at
methods_read pool bytes at next rows ms t s =
    table_reads short bytes member_bytes (IsMethod pool) (Apart method_key) (method_at pool bytes) (method_reads pool bytes) at next rows ms t.few t.each (distinct_along method_key [] ms t.distinct) s

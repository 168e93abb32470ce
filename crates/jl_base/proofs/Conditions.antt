-- What the tests of a row say, one by one.
use Rattle.std.proofs.Common.{subst, ◌≡◌, ℕ, List, Option, None, Some, Bool, true, false, length, map, IsTrue}
use Rattle.std.specs.Prelude.{is_ok, not, ◌||◌, ◌&&◌, cond, refl}
use Rattle.std.proofs.lemmas.Bool.{and_parts, ltb-true, not-true}
use Rattle.jl_names.specs.Names.{names_a_class}
use Rattle.jl_names.specs.Text.{text_bytes}
use Rattle.jl_names.specs.Utf16.{utf16}
use Rattle.jl_pool.specs.Builder.{IsShort}
use Rattle.jl_class.specs.Classes.{Class}
use Rattle.jl_class.specs.Meaning.{field_key, method_key, is_member_among, are_class_flags, is_native, is_abstract, is_interface, may_extend, has_code}
use Rattle.jl_classw.specs.Built.{IsSuper}
use Rattle.jl_classw.specs.Building.{unless_empty}
use Rattle.jl_base.specs.declared.row.MemberKind.{MemberKind}
use Rattle.jl_base.specs.declared.row.MemberKind.TheVariants as kinds
use Rattle.jl_base.specs.Rows.{Row, Member, is_field}
use Rattle.jl_base.specs.Made.{class_made}
use Rattle.jl_base.specs.Ready.{is_short, is_super, begins, are_interface_names, is_filled, is_ready, is_right_field, is_right_method, is_as_said, may_add, MayAddField, MayAddMethod}

pub short_by : (text : List ℕ) → IsTrue (is_short text) → IsShort text
short_by text h = ltb-true (length (text_bytes (utf16 text))) 65536 h

super_by : (super : Option (List ℕ)) → IsTrue (is_super super) → IsSuper super
super_by None h = tt
super_by (Some name) h = let p = and_parts _ _ h in (p.0, short_by name p.1)

pub record MayBegin (row : Row) : Type 0 where
  pub flags : IsTrue (are_class_flags row.flags)
  pub name : IsTrue (names_a_class row.name)
  pub short : IsShort row.name
  pub superclass : IsSuper (unless_empty row.super_name)
  pub extends : IsTrue (may_extend row.flags row.name (unless_empty row.super_name))

begins_by : (row : Row) → IsTrue (begins row) → MayBegin row
begins_by row h =
    let a = and_parts _ _ h in
    let b = and_parts _ _ a.1 in
    let c = and_parts _ _ b.1 in
    let n = and_parts _ _ b.0 in
    record { flags = a.0; name = n.0; short = short_by row.name n.1; superclass = super_by (unless_empty row.super_name) c.0; extends = c.1 }

pub record IsReady (row : Row) : Type 0 where
  pub begin : MayBegin row
  pub interfaces : IsTrue (are_interface_names row.interfaces)
  pub filled : IsTrue (is_filled row)
  pub made : IsTrue (is_ok (class_made row))

pub ready_by : (row : Row) → IsTrue (is_ready row) → IsReady row
unfolding is_ready
ready_by row h =
    let a = and_parts _ _ h in
    let b = and_parts _ _ a.1 in
    let c = and_parts _ _ b.1 in
    record { begin = begins_by row a.0; interfaces = b.0; filled = c.0; made = c.1 }

pub may_add_field : (c : Class) (m : Member) → is_field m.kind ≡ true → IsTrue (may_add c m) → MayAddField c m.flags m.name m.desc
may_add_field c m f h =
    let all = and_parts _ _ h in
    let right : IsTrue (is_right_field (is_interface c.flags) m.flags m.name m.desc)
    = subst (λ field. IsTrue (cond field (is_right_field (is_interface c.flags) m.flags m.name m.desc) (is_as_said m.kind m.flags && is_right_method m.flags m.name m.desc))) f all.0 in
    let a = and_parts _ _ right in
    let b = and_parts _ _ a.1 in
    let d = and_parts _ _ b.1 in
    let e = and_parts _ _ d.1 in
    record {
      right_flags = a.0;
      right_name = b.0;
      right_desc = d.0;
      short = (short_by m.name e.0, short_by m.desc e.1);
      fresh = subst (λ field. is_member_among (record { name = m.name; desc = m.desc }) (cond field (map field_key c.fields) (map method_key c.methods)) ≡ false) f (not-true _ all.1);
    }

-- of which the first is set, or the second
native_bodiless : (native abstract : Bool) → IsTrue native → not (native || abstract) ≡ false
native_bodiless native abstract h = rw h refl

abstract_bodiless : (native abstract : Bool) → IsTrue abstract → not (native || abstract) ≡ false
abstract_bodiless native abstract h = elim native as (λ n. not (n || abstract) ≡ false) [ true ↦ refl | false ↦ rw h refl ]

-- a method of either kind has no code
bodiless : (kind : MemberKind) (flags : ℕ) → IsTrue (is_as_said kind flags) → has_code flags ≡ false
bodiless kinds.Abstract flags h = abstract_bodiless (is_native flags) (is_abstract flags) (and_parts _ _ h).0
bodiless kinds.Field flags h = native_bodiless (is_native flags) (is_abstract flags) (and_parts _ _ h).0
bodiless (kinds.Boxed row) flags h = native_bodiless (is_native flags) (is_abstract flags) (and_parts _ _ h).0
bodiless kinds.Core flags h = native_bodiless (is_native flags) (is_abstract flags) (and_parts _ _ h).0
bodiless kinds.Entering flags h = native_bodiless (is_native flags) (is_abstract flags) (and_parts _ _ h).0

pub may_add_method : (c : Class) (m : Member) → is_field m.kind ≡ false → IsTrue (may_add c m) → MayAddMethod c m.flags m.name m.desc
may_add_method c m f h =
    let all = and_parts _ _ h in
    let right : IsTrue (is_as_said m.kind m.flags && is_right_method m.flags m.name m.desc)
    = subst (λ field. IsTrue (cond field (is_right_field (is_interface c.flags) m.flags m.name m.desc) (is_as_said m.kind m.flags && is_right_method m.flags m.name m.desc))) f all.0 in
    let said = and_parts _ _ right in
    let a = and_parts _ _ said.1 in
    let b = and_parts _ _ a.1 in
    let d = and_parts _ _ b.1 in
    let e = and_parts _ _ d.1 in
    record {
      right_flags = a.0;
      right_name = b.0;
      right_desc = d.0;
      short = (short_by m.name e.0, short_by m.desc e.1);
      fresh = subst (λ field. is_member_among (record { name = m.name; desc = m.desc }) (cond field (map field_key c.fields) (map method_key c.methods)) ≡ false) f (not-true _ all.1);
      bodiless = bodiless m.kind m.flags said.0;
    }

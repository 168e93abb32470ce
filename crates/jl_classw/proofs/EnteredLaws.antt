-- Entries that were entered behind those that they need.
use Rattle.std.proofs.Common.{◌≡◌, ℕ, ◌<◌, Bool, true, List, slice_get, Option, Some, Ok, refl, ap, subst, ◌∙◌}
use Rattle.std.specs.Prelude.{IsUtf8}
use Rattle.std.specs.Option.{option_and_then}
use Rattle.std.specs.Int.{cast_unsigned, w32, w64}
use Rattle.jl_reading.specs.Reading.{◌>>=◌}
use Rattle.jl_reading.proofs.Steps.{bind_ok, ok_is}
use Rattle.jl_names.specs.Utf16.{utf16}
use Rattle.jl_names.specs.Names.{names_a_class}
use Rattle.jl_names.proofs.Utf16Laws.{utf16_back, utf16_paired}
use Rattle.jl_pool.specs.declared.entry.Entry.{Entry}
use Rattle.jl_pool.specs.declared.entry.Entry.TheVariants as entries
use Rattle.jl_pool.specs.Builder.{IsShort}
use Rattle.jl_pool.specs.Pool.{utf8_units, class_name, is_utf8, is_class, is_name_and_type, some_tag, tag_of, text_of, paired, that, text_that, class_named}
use Rattle.jl_classw.specs.declared.entry.Constant.{Constant}
use Rattle.jl_classw.specs.declared.entry.Constant.TheVariants as constants
use Rattle.jl_classw.specs.declared.entry.MemberKind.{MemberKind}
use Rattle.jl_classw.specs.declared.entry.MemberKind.TheVariants as kinds
use Rattle.jl_classw.specs.declared.entry.NewEntry.{NewEntry}
use Rattle.jl_classw.specs.declared.entry.NewEntry.TheVariants as news
use Rattle.jl_classw.specs.Built.{IsPool, IsShortConstant, IsShortEntry, tag_of_constant, IsFit, IsSound}
use Rattle.jl_classw.specs.Building.{entered, text_entered, class_entered, string_entered, name_and_type_entered, member_entry, kind_of, member_entered, constant_entered, new_entered, attribute_entered}
use Rattle.jl_classw.proofs.PoolGrowth.{Grown, grown_then, there_still, small_index, and_is, IsFine, Entered, is_entered, text_is_entered}

-- ---- what the entries name

pub text_that_is : (pool : List Entry) (i : ℕ) (test : List ℕ → Bool) (t : List ℕ) → slice_get pool i ≡ Some (entries.Utf8 (utf16 t)) → IsUtf8 t → test t ≡ true → text_that test pool i ≡ Some t
text_that_is pool i test t there utf8 right =
    let pair : paired (utf16 t) ≡ Some t = rw (utf16_paired t utf8) (ap (λ (x : List ℕ). Some x) (utf16_back t utf8)) in
    let that_t : that test t ≡ Some t = rw right refl in
    ap (λ (o : Option Entry). option_and_then (that test) (option_and_then paired (utf8_units o))) there ∙ (ap (option_and_then (that test)) pair ∙ that_t)

pub text_of_is : (pool : List Entry) (i : ℕ) (t : List ℕ) → slice_get pool i ≡ Some (entries.Utf8 (utf16 t)) → IsUtf8 t → text_of pool i ≡ Some t
text_of_is pool i t there utf8 = rw there (ap (λ (x : List ℕ). Some x) (utf16_back t utf8))

pub class_named_is : (pool : List Entry) (i k : ℕ) (t : List ℕ) → slice_get pool i ≡ Some (entries.Class k) → slice_get pool k ≡ Some (entries.Utf8 (utf16 t)) → IsUtf8 t → names_a_class t ≡ true → class_named pool i ≡ Some t
class_named_is pool i k t there text utf8 right = ap (λ (o : Option Entry). option_and_then (text_that names_a_class pool) (class_name o)) there ∙ text_that_is pool k names_a_class t text utf8 right

-- ---- entries with others

pub record IsText (pool : List Entry) (t : List ℕ) (more : List Entry) : Type 0 where
  pub grown : Grown pool more
  pub index : ℕ
  pub there : slice_get more index ≡ Some (entries.Utf8 (utf16 t))

pub attribute_is_entered : (pool : List Entry) (t : List ℕ) (more : List Entry) → IsPool pool → IsUtf8 t → IsShort t → attribute_entered pool t ≡ Ok more → IsText pool t more
unfolding attribute_entered
attribute_is_entered pool t more is utf8 short h =
    let a = bind_ok (text_entered pool t) (λ text. Ok text.0) more h in
    let e = text_is_entered pool t a.0.0 a.0.1 is utf8 short a.1 in
    subst (IsText pool t) (ok_is a.0.0 more a.2) (record { grown = e.grown; index = a.0.1; there = e.there })

pub record IsClassAt (pool : List Entry) (t : List ℕ) (more : List Entry) (i : ℕ) : Type 0 where
  pub grown : Grown pool more
  pub name : ℕ
  pub there : slice_get more i ≡ Some (entries.Class name)
  pub text : slice_get more name ≡ Some (entries.Utf8 (utf16 t))

pub class_is_entered : (pool : List Entry) (t : List ℕ) (more : List Entry) (i : ℕ) → IsPool pool → IsUtf8 t → IsShort t → class_entered pool t ≡ Ok (more, i) → IsClassAt pool t more i
unfolding class_entered
class_is_entered pool t more i is utf8 short h =
    let a = bind_ok (text_entered pool t) (λ text. entered text.0 (entries.Class text.1)) (more, i) h in
    let e = text_is_entered pool t a.0.0 a.0.1 is utf8 short a.1 in
    let right = e.grown.right in
    let fine : IsFine a.0.0 (entries.Class a.0.1) = record { fits = small_index a.0.0 a.0.1 (entries.Utf8 (utf16 t)) right e.there; refers = ap is_utf8 e.there; inside = refl; used = refl } in
    let f = is_entered a.0.0 (entries.Class a.0.1) more i right fine a.2 in
    record {
      grown = grown_then pool a.0.0 more e.grown f.grown;
      name = a.0.1;
      there = f.there;
      text = there_still a.0.0 more f.grown a.0.1 (entries.Utf8 (utf16 t)) e.there;
    }

pub record IsNamedAt (pool more : List Entry) (i : ℕ) : Type 0 where
  pub grown : Grown pool more
  pub name : ℕ
  pub desc : ℕ
  pub there : slice_get more i ≡ Some (entries.NameAndType name desc)

name_and_type_is_entered : (pool : List Entry) (name desc : List ℕ) (more : List Entry) (i : ℕ) → IsPool pool → IsUtf8 name → IsShort name → IsUtf8 desc → IsShort desc → name_and_type_entered pool name desc ≡ Ok (more, i) → IsNamedAt pool more i
unfolding name_and_type_entered
name_and_type_is_entered pool name desc more i is utf8 short utf8_desc short_desc h =
    let a = bind_ok (text_entered pool name) (λ first. text_entered first.0 desc >>= λ second. entered second.0 (entries.NameAndType first.1 second.1)) (more, i) h in
    let b = bind_ok (text_entered a.0.0 desc) (λ second. entered second.0 (entries.NameAndType a.0.1 second.1)) (more, i) a.2 in
    let e = text_is_entered pool name a.0.0 a.0.1 is utf8 short a.1 in
    let f = text_is_entered a.0.0 desc b.0.0 b.0.1 e.grown.right utf8_desc short_desc b.1 in
    let still = there_still a.0.0 b.0.0 f.grown a.0.1 (entries.Utf8 (utf16 name)) e.there in
    let right = f.grown.right in
    let fine : IsFine b.0.0 (entries.NameAndType a.0.1 b.0.1) = record {
      fits = (small_index b.0.0 a.0.1 (entries.Utf8 (utf16 name)) right still, small_index b.0.0 b.0.1 (entries.Utf8 (utf16 desc)) right f.there);
      refers = and_is (is_utf8 (slice_get b.0.0 a.0.1)) (is_utf8 (slice_get b.0.0 b.0.1)) (ap is_utf8 still) (ap is_utf8 f.there);
      inside = refl;
      used = refl;
    } in
    let m = is_entered b.0.0 (entries.NameAndType a.0.1 b.0.1) more i right fine b.2 in
    record {
      grown = grown_then pool b.0.0 more (grown_then pool a.0.0 b.0.0 e.grown f.grown) m.grown;
      name = a.0.1;
      desc = b.0.1;
      there = m.there;
    }

fine_member : (kind : MemberKind) (pool : List Entry) (i j k name desc : ℕ) → IsPool pool → slice_get pool i ≡ Some (entries.Class k) → slice_get pool j ≡ Some (entries.NameAndType name desc) → IsFine pool (member_entry kind i j)
fine_member kind pool i j k name desc is class named = by kind
  where
    fits : (i < 65536) × (j < 65536)
    fits = (small_index pool i (entries.Class k) is class, small_index pool j (entries.NameAndType name desc) is named)

    by : (kind : MemberKind) → IsFine pool (member_entry kind i j)
    by kinds.Field = record { fits = fits; refers = and_is (is_class (slice_get pool i)) (is_name_and_type (slice_get pool j)) (ap is_class class) (ap is_name_and_type named); inside = refl; used = refl }
    by kinds.Method = record { fits = fits; refers = and_is (is_class (slice_get pool i)) (is_name_and_type (slice_get pool j)) (ap is_class class) (ap is_name_and_type named); inside = refl; used = refl }
    by kinds.InterfaceMethod = record { fits = fits; refers = and_is (is_class (slice_get pool i)) (is_name_and_type (slice_get pool j)) (ap is_class class) (ap is_name_and_type named); inside = refl; used = refl }

member_is_entered : (pool : List Entry) (kind : MemberKind) (class name desc : List ℕ) (more : List Entry) (i : ℕ) → IsPool pool → IsUtf8 class → IsShort class → IsUtf8 name → IsShort name → IsUtf8 desc → IsShort desc
    → member_entered pool kind class name desc ≡ Ok (more, i) → Grown pool more
unfolding member_entered
member_is_entered pool kind class name desc more i is utf8_class short_class utf8 short utf8_desc short_desc h =
    let a = bind_ok (class_entered pool class) (λ owner. name_and_type_entered owner.0 name desc >>= λ member. entered member.0 (member_entry kind owner.1 member.1)) (more, i) h in
    let b = bind_ok (name_and_type_entered a.0.0 name desc) (λ member. entered member.0 (member_entry kind a.0.1 member.1)) (more, i) a.2 in
    let e = class_is_entered pool class a.0.0 a.0.1 is utf8_class short_class a.1 in
    let f = name_and_type_is_entered a.0.0 name desc b.0.0 b.0.1 e.grown.right utf8 short utf8_desc short_desc b.1 in
    let still = there_still a.0.0 b.0.0 f.grown a.0.1 (entries.Class e.name) e.there in
    let fine = fine_member kind b.0.0 a.0.1 b.0.1 e.name f.name f.desc f.grown.right still f.there in
    let m = is_entered b.0.0 (member_entry kind a.0.1 b.0.1) more i f.grown.right fine b.2 in
    grown_then pool b.0.0 more (grown_then pool a.0.0 b.0.0 e.grown f.grown) m.grown

-- ---- constants

pub record IsConstantAt (pool more : List Entry) (tag i : ℕ) : Type 0 where
  pub grown : Grown pool more
  pub tagged : tag_of more i ≡ Some tag
  pub small : i < 65536

constant_at : (pool : List Entry) (e : Entry) (more : List Entry) (i tag : ℕ) → some_tag (Some e) ≡ Some tag → Entered pool e more i → IsConstantAt pool more tag i
constant_at pool e more i tag tagged is = record {
  grown = is.grown;
  tagged = ap some_tag is.there ∙ tagged;
  small = small_index more i e is.grown.right is.there;
}

string_is_entered : (pool : List Entry) (units : List ℕ) (more : List Entry) (i : ℕ) → IsPool pool → IsShortConstant (constants.Text units) → string_entered pool units ≡ Ok (more, i) → IsConstantAt pool more 8 i
unfolding string_entered
string_is_entered pool units more i is short h =
    let a = bind_ok (entered pool (entries.Utf8 units)) (λ text. entered text.0 (entries.String text.1)) (more, i) h in
    let e = is_entered pool (entries.Utf8 units) a.0.0 a.0.1 is (record { fits = short; refers = refl; inside = refl; used = refl }) a.1 in
    let right = e.grown.right in
    let fine : IsFine a.0.0 (entries.String a.0.1) = record { fits = small_index a.0.0 a.0.1 (entries.Utf8 units) right e.there; refers = ap is_utf8 e.there; inside = refl; used = refl } in
    let f = is_entered a.0.0 (entries.String a.0.1) more i right fine a.2 in
    constant_at pool (entries.String a.0.1) more i 8 refl (record { grown = grown_then pool a.0.0 more e.grown f.grown; there = f.there })

pub constant_is_entered : (pool : List Entry) (constant : Constant) (more : List Entry) (i : ℕ) → IsPool pool → IsShortConstant constant → IsFit constant → constant_entered pool constant ≡ Ok (more, i) → IsConstantAt pool more (tag_of_constant constant) i
constant_is_entered pool (constants.Int n) more i is short fit h =
    constant_at pool (entries.Integer (cast_unsigned w32 n)) more i 3 refl (is_entered pool (entries.Integer (cast_unsigned w32 n)) more i is (record { fits = fit; refers = refl; inside = refl; used = refl }) h)
constant_is_entered pool (constants.Long n) more i is short fit h =
    constant_at pool (entries.Long (cast_unsigned w64 n)) more i 5 refl (is_entered pool (entries.Long (cast_unsigned w64 n)) more i is (record { fits = fit; refers = refl; inside = refl; used = refl }) h)
constant_is_entered pool (constants.Text units) more i is short fit h = string_is_entered pool units more i is short h

pub new_is_entered : (pool : List Entry) (e : NewEntry) (more : List Entry) (i : ℕ) → IsPool pool → IsShortEntry e → IsSound e → new_entered pool e ≡ Ok (more, i) → Grown pool more
new_is_entered pool (news.Class name) more i is short sound h = (class_is_entered pool name more i is sound short h).grown
new_is_entered pool (news.Member tag class name desc) more i is short sound h = member_is_entered pool (kind_of tag) class name desc more i is sound.0 short.0 sound.1 short.1 sound.2 short.2 h
new_is_entered pool (news.Constant constant) more i is short sound h = (constant_is_entered pool constant more i is short sound h).grown

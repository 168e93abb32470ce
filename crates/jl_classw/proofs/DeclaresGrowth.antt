-- What declares a class declares it over a pool that grew.
use Rattle.std.proofs.Common.{◌≡◌, ℕ, Bool, true, false, List, [], ◌∷◌, Option, None, Some, refl, sym, ap, subst, ◌∙◌, inl, inr}
use Rattle.jl_optable.specs.declared.attributes.AttrForm.TheVariants as forms
use Rattle.std.specs.Prelude.{⊤, ◌==◌, option_map, if◌then◌else◌}
use Rattle.std.specs.List.{AllByRecursion}
use Rattle.std.specs.Option.{option_and_then}
use Rattle.std.proofs.lemmas.Bool.{cases_Bool}
use Rattle.jl_logic.proofs.Matching.{match_as}
use Rattle.jl_names.specs.Text.{plain}
use Rattle.jl_names.specs.Names.{names_a_class, names_a_field}
use Rattle.jl_pool.specs.declared.entry.Entry.{Entry}
use Rattle.jl_pool.specs.Pool.{utf8_units, class_name, class_of, some_tag, tag_of, text_of, paired, that, text_that, class_named}
use Rattle.jl_class.specs.declared.member.CodeBytes.{CodeBytes}
use Rattle.jl_class.specs.declared.member.FieldDecl.{FieldDecl}
use Rattle.jl_class.specs.declared.member.MethodDecl.{MethodDecl}
use Rattle.jl_class.specs.declared.member.MemberKey.{MemberKey}
use Rattle.jl_class.specs.Classes.{Class}
use Rattle.jl_class.specs.Meaning.{super_named, may_be_constant, sets_field, names_method_with, describes_a_field, describes_method_with, field_key, method_key, is_interface, names_constant_value, names_code, names_frames}
use Rattle.jl_class.specs.Spelling.{Member, Parts, IsConstant, IsFrames, IsCode, MemberFits, IsField, IsMethod, Declares, Component, IsComponent, IsRecord, IsHost, AreClasses, HaveNests, names_form}
use Rattle.jl_classfile.specs.Spelling.{Attribute, is_some_that, contents, AttributeFits, AreAttributes, AtMostOne, IsTable, HasName}
use Rattle.jl_classw.proofs.PartLaws.{kept_contents, passed_contents}
use Rattle.jl_classw.proofs.PoolGrowth.{Grown, still, some_of}

-- ---- lists

all_as : {A : Type 0} (P Q : A → Type 0) → ((a : A) → P a → Q a) → (xs : List A) → AllByRecursion P xs → AllByRecursion Q xs
all_as P Q h [] all = tt
all_as P Q h (a ∷ xs) all = (h a all.0, all_as P Q h xs all.1)

at_most_one_as : {V : Type 0} (M N : List ℕ → V → Type 0) (cs ds : List (List ℕ)) (o : Option V) → ds ≡ cs → ((c : List ℕ) (v : V) → M c v → N c v) → AtMostOne M cs o → AtMostOne N ds o
at_most_one_as M N cs ds None e h one = e ∙ one
at_most_one_as M N cs ds (Some v) e h one = (one.0, e ∙ one.1, h one.0 v one.2)

test_of : {A : Type 0} (t : Option A → Bool) (o : Option A) → t None ≡ false → t o ≡ true → (x : A) × (o ≡ Some x)
test_of t None n e = absurd (let g = sym n ∙ e in cc)
test_of t (Some x) n e = (x, refl)

super_by : {A : Type 0} (w : Bool) (x y z : Option A) (s : Option A) → ((x ≡ s) → y ≡ s) → (if w then z else x) ≡ s → (if w then z else y) ≡ s
super_by true x y z s h e = e
super_by false x y z s h e = h e

module _ (a b : List Entry) (g : Grown a b) where
  -- ---- names

  text_of_still : (i : ℕ) (t : List ℕ) → text_of a i ≡ Some t → text_of b i ≡ Some t
  text_of_still i t e = still (λ o. option_map plain (utf8_units o)) a b g i t refl e

  text_that_still : (test : List ℕ → Bool) (i : ℕ) (t : List ℕ) → text_that test a i ≡ Some t → text_that test b i ≡ Some t
  text_that_still test i t e = still (λ o. option_and_then (that test) (option_and_then paired (utf8_units o))) a b g i t refl e

  class_named_still : (i : ℕ) (t : List ℕ) → class_named a i ≡ Some t → class_named b i ≡ Some t
  class_named_still i t e =
      let s = some_of (option_and_then (text_that names_a_class a)) (class_of a i) t refl e in
      let named : text_that names_a_class a s.0 ≡ Some t = ap (option_and_then (text_that names_a_class a)) (sym s.1) ∙ e in
      ap (option_and_then (text_that names_a_class b)) (still class_name a b g i s.0 refl s.1) ∙ text_that_still names_a_class s.0 t named

  some_super_still : (i : ℕ) (s : Option (List ℕ)) → option_and_then (λ name. Some (Some name)) (class_named a i) ≡ Some s → option_and_then (λ name. Some (Some name)) (class_named b i) ≡ Some s
  some_super_still i s e =
      let f : Option (List ℕ) → Option (Option (List ℕ)) = λ o. option_and_then (λ name. Some (Some name)) o in
      let n = some_of f (class_named a i) s refl e in
      ap f (class_named_still i n.0 n.1) ∙ (ap f (sym n.1) ∙ e)

  super_named_still : (i : ℕ) (s : Option (List ℕ)) → super_named a i ≡ Some s → super_named b i ≡ Some s
  super_named_still i s e =
      super_by (i == 0) (option_and_then (λ name. Some (Some name)) (class_named a i)) (option_and_then (λ name. Some (Some name)) (class_named b i)) (Some None) (Some s) (some_super_still i s) e

  sets_field_still : (flags : ℕ) (desc : List ℕ) (i : ℕ) → sets_field flags desc a i ≡ true → sets_field flags desc b i ≡ true
  sets_field_still flags desc i e =
      let t = test_of (may_be_constant flags desc) (tag_of a i) refl e in
      ap (may_be_constant flags desc) (still some_tag a b g i t.0 refl t.1) ∙ (ap (may_be_constant flags desc) (sym t.1) ∙ e)

  -- ---- attributes

  attribute_still : (x : Attribute) → AttributeFits a x → AttributeFits b x
  attribute_still x f = (f.0, f.1, (f.2.0, text_of_still x.index f.2.0 f.2.1))

  attributes_still : (xs : List Attribute) → AreAttributes a xs → AreAttributes b xs
  attributes_still xs r = record { few = r.few; fit = all_as (AttributeFits a) (AttributeFits b) attribute_still xs r.fit }

  contents_still : (is_read : List ℕ → Bool) (xs : List Attribute) → AllByRecursion (AttributeFits a) xs → contents b is_read xs ≡ contents a is_read xs
  contents_still is_read [] fit = refl
  contents_still is_read (x ∷ xs) fit =
      let same : is_some_that is_read (text_of b x.index) ≡ is_some_that is_read (text_of a x.index) = ap (is_some_that is_read) (text_of_still x.index fit.0.2.0 fit.0.2.1 ∙ sym fit.0.2.1) in
      let rest = contents_still is_read xs fit.1 in
      elim (cases_Bool (is_some_that is_read (text_of a x.index))) [
        | inl t ↦ kept_contents b is_read x xs (same ∙ t) ∙ (ap (λ (l : List (List ℕ)). x.content ∷ l) rest ∙ sym (kept_contents a is_read x xs t))
        | inr f ↦ passed_contents b is_read x xs (same ∙ f) ∙ (rest ∙ sym (passed_contents a is_read x xs f))
      ]

  constant_still : (flags : ℕ) (desc : List ℕ) (c : List ℕ) (i : ℕ) → IsConstant flags desc a c i → IsConstant flags desc b c i
  constant_still flags desc c i is = (is.0, is.1, sets_field_still flags desc i is.2)

  code_still : (c : List ℕ) (d : CodeBytes) → IsCode a c d → IsCode b c d
  code_still c d is = record {
    attributes = is.attributes;
    is = is.is;
    fits = is.fits;
    fit = attributes_still is.attributes is.fit;
    frames = at_most_one_as IsFrames IsFrames (contents a names_frames is.attributes) (contents b names_frames is.attributes) d.frames (contents_still names_frames is.attributes is.fit.fit) (λ c v m. m) is.frames;
  }

  -- ---- members

  member_still : (m : Member) → MemberFits a m → MemberFits b m
  member_still m f = record { flags = f.flags; name = f.name; desc = f.desc; attributes = attributes_still m.attributes f.attributes }

  field_still : (in_interface : Bool) (m : Member) (f : FieldDecl) → IsField in_interface a m f → IsField in_interface b m f
  field_still in_interface m f is = record {
    fits = member_still m is.fits;
    flags = is.flags;
    flagged = is.flagged;
    named = text_that_still names_a_field m.name f.name is.named;
    described = text_that_still describes_a_field m.desc f.desc is.described;
    constant = at_most_one_as (IsConstant f.flags f.desc a) (IsConstant f.flags f.desc b) (contents a names_constant_value m.attributes) (contents b names_constant_value m.attributes) f.constant
        (contents_still names_constant_value m.attributes is.fits.attributes.fit) (constant_still f.flags f.desc) is.constant;
  }

  method_still : (m : Member) (d : MethodDecl) → IsMethod a m d → IsMethod b m d
  method_still m d is = record {
    fits = member_still m is.fits;
    flags = is.flags;
    flagged = is.flagged;
    named = text_that_still (names_method_with d.flags) m.name d.name is.named;
    described = text_that_still (describes_method_with d.name) m.desc d.desc is.described;
    code = at_most_one_as (IsCode a) (IsCode b) (contents a names_code m.attributes) (contents b names_code m.attributes) d.code (contents_still names_code m.attributes is.fits.attributes.fit) code_still is.code;
    has = is.has;
  }

  table_still : {B : Type 0} (R S : Member → B → Type 0) (key : B → MemberKey) → ((m : Member) (x : B) → R m x → S m x) → (rows : List Member) (members : List B) → IsTable R key rows members → IsTable S key rows members
  table_still R S key h rows members t = record { few = t.few; each = match_as {R = R} {S = S} h rows members t.each; distinct = t.distinct }

  name_still : (i : ℕ) (t : List ℕ) → HasName (class_named a) i t → HasName (class_named b) i t
  name_still i t h = (h.0, class_named_still i t h.1)

  -- ---- attributes of a class

  pub host_still : (c name : List ℕ) → IsHost a c name → IsHost b c name
  host_still c name h = (h.0, h.1, name_still h.0 name h.2)

  pub classes_still : (c : List ℕ) (names : List (List ℕ)) → AreClasses a c names → AreClasses b c names
  classes_still c names r = record { indices = r.indices; is = r.is; few = r.few; each = match_as {R = HasName (class_named a)} {S = HasName (class_named b)} name_still r.indices names r.each }

  component_still : (c : Component) → IsComponent a c → IsComponent b c
  component_still c is = record {
    named = (is.named.0, (is.named.1.0, text_that_still names_a_field c.name is.named.0 is.named.1.1));
    described = (is.described.0, (is.described.1.0, text_that_still describes_a_field c.desc is.described.0 is.described.1.1));
    attributes = attributes_still c.attributes is.attributes;
  }

  record_still : (c : List ℕ) (kept : ⊤) → IsRecord a c kept → IsRecord b c kept
  record_still c kept r = record { components = r.components; is = r.is; few = r.few; each = all_as (IsComponent a) (IsComponent b) component_still r.components r.each }

  nests_still : (c : Class) (xs : List Attribute) → AllByRecursion (AttributeFits a) xs → HaveNests (record c { pool = a }) xs → HaveNests (record c { pool = b }) xs
  nests_still c xs fit h = record {
    host = at_most_one_as (IsHost a) (IsHost b) (contents a (names_form c.major forms.Host) xs) (contents b (names_form c.major forms.Host) xs) c.nest_host (contents_still (names_form c.major forms.Host) xs fit) host_still h.host;
    members = h.members;
    listed = at_most_one_as (AreClasses a) (AreClasses b) (contents a (names_form c.major forms.Members) xs) (contents b (names_form c.major forms.Members) xs) h.members (contents_still (names_form c.major forms.Members) xs fit) classes_still h.listed;
    members_are = h.members_are;
    apart = h.apart;
    record_kept = h.record_kept;
    components = at_most_one_as (IsRecord a) (IsRecord b) (contents a (names_form c.major forms.Components) xs) (contents b (names_form c.major forms.Components) xs) h.record_kept (contents_still (names_form c.major forms.Components) xs fit) record_still h.components;
    permits = at_most_one_as (AreClasses a) (AreClasses b) (contents a (names_form c.major forms.Permits) xs) (contents b (names_form c.major forms.Permits) xs) c.permits (contents_still (names_form c.major forms.Permits) xs fit) classes_still h.permits;
    extended = h.extended;
  }

  pub declares_still : (p : Parts) (c : Class) → c.pool ≡ a → Declares p c → Declares p (record c { pool = b })
  declares_still p c same d0 =
      let d : Declares p (record c { pool = a }) = subst (λ (l : List Entry). Declares p (record c { pool = l })) same d0 in
      record {
        flags = d.flags;
        flagged = d.flagged;
        this = name_still p.this c.name d.this;
        super = (d.super.0, super_named_still p.super c.super_name d.super.1);
        extends = d.extends;
        few = d.few;
        interfaces = match_as {R = HasName (class_named a)} {S = HasName (class_named b)} name_still p.interfaces c.interfaces d.interfaces;
        fields = table_still (IsField (is_interface c.flags) a) (IsField (is_interface c.flags) b) field_key (field_still (is_interface c.flags)) p.fields c.fields d.fields;
        methods = table_still (IsMethod a) (IsMethod b) method_key method_still p.methods c.methods d.methods;
        attributes = attributes_still p.attributes d.attributes;
        nests = nests_still c p.attributes d.attributes.fit d.nests;
      }

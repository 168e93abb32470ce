-- The attributes, fields and methods that are written declare what they are written for.
use Rattle.std.proofs.Common.{◌≡◌, ℕ, ◌+◌, ◌<◌, ◌≤◌, Bool, true, false, List, [], ◌∷◌, ◌++◌, map, length, Option, None, Some, refl, sym, ap, subst, ◌∙◌, arith, inl, inr}
use Rattle.std.specs.Prelude.{codes}
use Rattle.std.specs.List.{flat_map, AllByRecursion}
use Rattle.std.proofs.lemmas.Bool.{cases_Bool}
use Rattle.std.proofs.lemmas.List.{length-append, length-map}
use Rattle.std.proofs.lemmas.List.Concat.{flat_map-cons}
use Rattle.jl_names.specs.Names.{names_a_field}
use Rattle.jl_reading.specs.Reading.{two, counted}
use Rattle.jl_pool.specs.declared.entry.Entry.{Entry}
use Rattle.jl_pool.specs.Pool.{text_of}
use Rattle.jl_class.specs.declared.member.CodeBytes.{CodeBytes}
use Rattle.jl_class.specs.declared.member.FieldDecl.{FieldDecl}
use Rattle.jl_class.specs.declared.member.MethodDecl.{MethodDecl}
use Rattle.jl_class.specs.declared.member.MemberKey.{MemberKey}
use Rattle.jl_class.specs.Meaning.{names_method_with, describes_a_field, describes_method_with, names_constant_value, names_code, names_frames}
use Rattle.jl_class.specs.Spelling.{Member, handler_bytes, code_bytes, IsConstant, IsFrames, IsCode, IsField, IsMethod}
use Rattle.jl_classfile.specs.Spelling.{Attribute, attribute_bytes, is_some_that, contents, AttributeFits, AreAttributes, AtMostOne, IsTable}
use Rattle.jl_logic.specs.Lists.{Match}
use Rattle.jl_classw.specs.Writing.{named_attribute, optional, constant_attribute, frames_attribute, code_content, code_attribute, field_member, method_member, IsShortCode}
use Rattle.jl_classw.proofs.IndexLaws.{text_is, text_place, attribute_place}

-- ---- the attributes with a name

-- an attribute with a name that is read, and this content
pub record Named (pool : List Entry) (is_read : List ℕ → Bool) (content : List ℕ) (a : Attribute) : Type 0 where
  pub is : a.content ≡ content
  pub named : is_some_that is_read (text_of pool a.index) ≡ true
  pub fits : AttributeFits pool a

pub kept_contents : (pool : List Entry) (is_read : List ℕ → Bool) (a : Attribute) (others : List Attribute) → is_some_that is_read (text_of pool a.index) ≡ true → contents pool is_read (a ∷ others) ≡ a.content ∷ contents pool is_read others
kept_contents pool is_read a others t = rw t refl

pub passed_contents : (pool : List Entry) (is_read : List ℕ → Bool) (a : Attribute) (others : List Attribute) → is_some_that is_read (text_of pool a.index) ≡ false → contents pool is_read (a ∷ others) ≡ contents pool is_read others
passed_contents pool is_read a others f = rw f refl

first_is : {A : Type 0} (x y : A) (xs ys : List A) → x ∷ xs ≡ y ∷ ys → x ≡ y
first_is x y xs ys e = cc

pub one_named : (pool : List Entry) (is_read : List ℕ → Bool) (attributes : List Attribute) (c : List ℕ) (cs : List (List ℕ)) → AllByRecursion (AttributeFits pool) attributes → contents pool is_read attributes ≡ c ∷ cs
    → (a : Attribute) × Named pool is_read c a × (6 + length c ≤ length (flat_map attribute_bytes attributes))
one_named pool is_read [] c cs fit e = absurd cc
one_named pool is_read (a ∷ others) c cs fit e = elim (cases_Bool (is_some_that is_read (text_of pool a.index))) [
  | inl t ↦
      let same : a.content ≡ c = first_is a.content c (contents pool is_read others) cs (sym (kept_contents pool is_read a others t) ∙ e) in
      (a, record { is = same; named = t; fits = fit.0 }, long_first a others c same)
  | inr f ↦
      let rest = one_named pool is_read others c cs fit.1 (sym (passed_contents pool is_read a others f) ∙ e) in
      (rest.0, rest.1, long_rest a others c rest.2)
]
  where
    long_first : (a : Attribute) (others : List Attribute) (c : List ℕ) → a.content ≡ c → 6 + length c ≤ length (flat_map attribute_bytes (a ∷ others))
    long_first a others c same =
        let l = length-append (attribute_bytes a) (flat_map attribute_bytes others) in
        let m = ap length (flat_map-cons attribute_bytes a others) in
        let n = ap length same in
        omega (arith, l, m, n)

    long_rest : (a : Attribute) (others : List Attribute) (c : List ℕ) → 6 + length c ≤ length (flat_map attribute_bytes others) → 6 + length c ≤ length (flat_map attribute_bytes (a ∷ others))
    long_rest a others c le =
        let l = length-append (attribute_bytes a) (flat_map attribute_bytes others) in
        let m = ap length (flat_map-cons attribute_bytes a others) in
        omega (arith, l, m)

pub some_named : (is_read : List ℕ → Bool) (name : List ℕ) (o : Option (List ℕ)) → ((text : List ℕ) → is_read text ≡ true → text ≡ name) → is_some_that is_read o ≡ true → o ≡ Some name
some_named is_read name None h e = absurd cc
some_named is_read name (Some text) h e = ap (λ (t : List ℕ). Some t) (h text e)

few_optional : {V : Type 0} (one : V → Attribute) (o : Option V) → length (optional one o) < 65536
few_optional one None = omega arith
few_optional one (Some v) = omega arith

-- the length of a Code attribute's content
pub code_length : (c : CodeBytes) (others : List Attribute) → length (code_bytes c others) ≡ 12 + length c.code + length (flat_map handler_bytes c.handlers) + length (flat_map attribute_bytes others)
code_length c others =
    let q = counted attribute_bytes others in
    let r = counted handler_bytes c.handlers ++ q in
    let one = length-append c.code r in
    let two = length-append (flat_map handler_bytes c.handlers) q in
    omega (arith, one, two)

module _ (pool : List Entry) (few : length pool < 65536) where
  -- an attribute that is written stands alone under its name
  record IsWritten (is_read : List ℕ → Bool) (name content : List ℕ) : Type 0 where
    pub fit : AllByRecursion (AttributeFits pool) (named_attribute pool name content ∷ [])
    pub alone : contents pool is_read (named_attribute pool name content ∷ []) ≡ content ∷ []

  is_written : (is_read : List ℕ → Bool) (name content : List ℕ) (a : Attribute) (c : List ℕ) → ((text : List ℕ) → is_read text ≡ true → text ≡ name) → is_read name ≡ true → Named pool is_read c a → length content < 4294967296
      → IsWritten is_read name content
  is_written is_read name content a c only right named short =
      let there = some_named is_read name (text_of pool a.index) only named.named in
      let place = attribute_place pool few name a.index there in
      record {
        fit = ((place.1, short, (name, place.0)), tt);
        alone = kept_contents pool is_read (named_attribute pool name content) [] (ap (is_some_that is_read) place.0 ∙ right);
      }

  -- ---- a ConstantValue

  constant_fits : (flags : ℕ) (desc : List ℕ) (attributes : List Attribute) (o : Option ℕ) → AreAttributes pool attributes → AtMostOne (IsConstant flags desc pool) (contents pool names_constant_value attributes) o
      → AreAttributes pool (optional (constant_attribute pool) o) × AtMostOne (IsConstant flags desc pool) (contents pool names_constant_value (optional (constant_attribute pool) o)) o
  constant_fits flags desc attributes None fit e = (record { few = omega arith; fit = tt }, refl)
  constant_fits flags desc attributes (Some i) fit e =
      let n = one_named pool names_constant_value attributes e.0 [] fit.fit e.1 in
      let w = is_written names_constant_value (codes "ConstantValue") (two i) n.0 e.0 (λ text t. text_is text (codes "ConstantValue") t) refl n.1 (omega arith) in
      (record { few = omega arith; fit = w.fit }, (two i, w.alone, (e.2.0, refl, e.2.2)))

  -- ---- a Code

  frames_fit : (attributes : List Attribute) (o : Option (List ℕ)) → AreAttributes pool attributes → AtMostOne IsFrames (contents pool names_frames attributes) o
      → AreAttributes pool (optional (frames_attribute pool) o) × AtMostOne IsFrames (contents pool names_frames (optional (frames_attribute pool) o)) o
      × (length (flat_map attribute_bytes (optional (frames_attribute pool) o)) ≤ length (flat_map attribute_bytes attributes))
  frames_fit attributes None fit e = (record { few = omega arith; fit = tt }, refl, omega arith)
  frames_fit attributes (Some frames) fit e =
      let n = one_named pool names_frames attributes e.0 [] fit.fit e.1 in
      let same : e.0 ≡ frames = e.2 in
      let content : n.0.content ≡ frames = n.1.is ∙ same in
      let size = ap length content in
      let short = n.1.fits.1 in
      let w = is_written names_frames (codes "StackMapTable") frames n.0 e.0 (λ text t. text_is text (codes "StackMapTable") t) refl n.1 (omega (arith, size, short)) in
      let a = frames_attribute pool frames in
      let l = length-append (attribute_bytes a) [] in
      let m = ap length (flat_map-cons attribute_bytes a []) in
      let s = ap length same in
      let long = n.2 in
      (record { few = omega arith; fit = w.fit }, (frames, w.alone, refl), omega (arith, l, m, s, long))

  code_fits : (content : List ℕ) (c : CodeBytes) → length content < 4294967296 → IsCode pool content c → IsCode pool (code_content pool c) c × IsShortCode pool (Some c)
  code_fits content c short is =
      let f = frames_fit is.attributes c.frames is.fit is.frames in
      let old = code_length c is.attributes in
      let new = code_length c (optional (frames_attribute pool) c.frames) in
      let size = ap length is.is in
      let le = f.2 in
      (record { attributes = optional (frames_attribute pool) c.frames; is = refl; fits = is.fits; fit = f.0; frames = f.1 }, (is.fits, omega (arith, old, new, size, le, short)))

  method_code_fits : (attributes : List Attribute) (o : Option CodeBytes) → AreAttributes pool attributes → AtMostOne (IsCode pool) (contents pool names_code attributes) o
      → AreAttributes pool (optional (code_attribute pool) o) × AtMostOne (IsCode pool) (contents pool names_code (optional (code_attribute pool) o)) o × IsShortCode pool o
  method_code_fits attributes None fit e = (record { few = omega arith; fit = tt }, refl, tt)
  method_code_fits attributes (Some c) fit e =
      let n = one_named pool names_code attributes e.0 [] fit.fit e.1 in
      let size = ap length n.1.is in
      let short = n.1.fits.1 in
      let k = code_fits e.0 c (omega (arith, size, short)) e.2 in
      let w = is_written names_code (codes "Code") (code_content pool c) n.0 e.0 (λ text t. text_is text (codes "Code") t) refl n.1 k.1.1 in
      (record { few = omega arith; fit = w.fit }, (code_content pool c, w.alone, k.0), k.1)

  -- ---- members

  pub field_written : (in_interface : Bool) (m : Member) (f : FieldDecl) → IsField in_interface pool m f → IsField in_interface pool (field_member pool f) f
  field_written in_interface m f is =
      let name = text_place pool few names_a_field f.name m.name is.named in
      let desc = text_place pool few describes_a_field f.desc m.desc is.described in
      let constant = constant_fits f.flags f.desc m.attributes f.constant is.fits.attributes is.constant in
      record {
        fits = record { flags = subst (λ (n : ℕ). n < 65536) (sym is.flags) is.fits.flags; name = name.1; desc = desc.1; attributes = constant.0 };
        flags = refl;
        flagged = is.flagged;
        named = name.0;
        described = desc.0;
        constant = constant.1;
      }

  pub method_written : (m : Member) (d : MethodDecl) → IsMethod pool m d → IsMethod pool (method_member pool d) d
  method_written m d is =
      let name = text_place pool few (names_method_with d.flags) d.name m.name is.named in
      let desc = text_place pool few (describes_method_with d.name) d.desc m.desc is.described in
      let code = method_code_fits m.attributes d.code is.fits.attributes is.code in
      record {
        fits = record { flags = subst (λ (n : ℕ). n < 65536) (sym is.flags) is.fits.flags; name = name.1; desc = desc.1; attributes = code.0 };
        flags = refl;
        flagged = is.flagged;
        named = name.0;
        described = desc.0;
        code = code.1;
        has = is.has;
      }

  pub method_short : (m : Member) (d : MethodDecl) → IsMethod pool m d → IsShortCode pool d.code
  method_short m d is = (method_code_fits m.attributes d.code is.fits.attributes is.code).2

-- ---- tables

pub match_written : {A B : Type 0} (R : A → B → Type 0) (made : B → A) → ((a : A) (b : B) → R a b → R (made b) b) → (xs : List A) (ys : List B) → Match R xs ys → Match R (map made ys) ys
match_written R made h [] [] m = tt
match_written R made h (a ∷ xs) (b ∷ ys) m = (h a b m.0, match_written R made h xs ys m.1)
match_written R made h [] (b ∷ ys) m = absurd m
match_written R made h (a ∷ xs) [] m = absurd m

pub match_all : {A B : Type 0} (R : A → B → Type 0) (P : B → Type 0) → ((a : A) (b : B) → R a b → P b) → (xs : List A) (ys : List B) → Match R xs ys → AllByRecursion P ys
match_all R P h [] [] m = tt
match_all R P h (a ∷ xs) (b ∷ ys) m = (h a b m.0, match_all R P h xs ys m.1)
match_all R P h [] (b ∷ ys) m = absurd m
match_all R P h (a ∷ xs) [] m = absurd m

pub match_length : {A B : Type 0} (R : A → B → Type 0) (xs : List A) (ys : List B) → Match R xs ys → length xs ≡ length ys
match_length R [] [] m = refl
match_length R (a ∷ xs) (b ∷ ys) m = let h = match_length R xs ys m.1 in omega (arith, h)
match_length R [] (b ∷ ys) m = absurd m
match_length R (a ∷ xs) [] m = absurd m

pub table_written : {B : Type 0} (R : Member → B → Type 0) (key : B → MemberKey) (made : B → Member) → ((m : Member) (b : B) → R m b → R (made b) b) → (rows : List Member) (members : List B) → IsTable R key rows members
    → IsTable R key (map made members) members
table_written R key made h rows members t =
    let l = length-map members made in
    let m = match_length R rows members t.each in
    let few = t.few in
    record { few = omega (arith, l, m, few); each = match_written R made h rows members t.each; distinct = t.distinct }

-- What a call of the builder adds leaves a class for which a file can be written.
use Rattle.std.proofs.Common.{◌≡◌, ℕ, zero, suc, ◌*◌, ◌<◌, ◌≤◌, Bool, true, false, ltb, List, [], ◌∷◌, ◌++◌, length, slice_get, Option, None, Some, Result, Ok, refl, sym, ap, ap₂, subst, ◌∙◌, arith, lit<}
use Rattle.std.specs.Prelude.{◌&&◌, IsUtf8, is_some, codes, map, IfSome}
use Rattle.std.specs.List.{flat_map}
use Rattle.std.proofs.lemmas.List.{append-nil, length-append, length_push}
use Rattle.std.specs.Str.{IsAscii}
use Rattle.std.specs.Char.Escape.{encode_utf16}
use Rattle.std.proofs.lemmas.Str.{IsUtf8-from_ascii, chars-IsAscii}
use Rattle.std.proofs.lemmas.Bool.{ltb-true, ltb-false, and_parts}
use Rattle.std.proofs.lemmas.List.Concat.{flat_map-cons}
use Rattle.jl_reading.specs.Reading.{◌>>=◌, two}
use Rattle.jl_reading.proofs.Steps.{bind_ok, ok_is}
use Rattle.jl_prim.specs.declared.declaration.Handler.{Handler}
use Rattle.jl_names.specs.Names.{names_a_class, names_a_field}
use Rattle.jl_names.specs.Text.{text_bytes}
use Rattle.jl_names.specs.Utf16.{utf16}
use Rattle.jl_optable.specs.declared.attributes.AttrForm.{AttrForm}
use Rattle.jl_optable.specs.declared.attributes.AttrForm.TheVariants as forms
use Rattle.jl_optable.specs.Attributes.{name_of}
use Rattle.jl_pool.specs.declared.entry.Entry.{Entry}
use Rattle.jl_pool.specs.declared.entry.Entry.TheVariants as entries
use Rattle.jl_pool.specs.Builder.{IsShort}
use Rattle.jl_pool.specs.Pool.{tag_of, class_named}
use Rattle.jl_class.specs.declared.member.CodeBytes.{CodeBytes}
use Rattle.jl_class.specs.declared.member.FieldDecl.{FieldDecl}
use Rattle.jl_class.specs.declared.member.MethodDecl.{MethodDecl}
use Rattle.jl_class.specs.declared.member.MemberKey.{MemberKey}
use Rattle.jl_class.specs.Classes.{Class}
use Rattle.jl_class.specs.Meaning.{are_class_flags, are_field_flags, are_method_flags, has_code, is_interface, may_extend, may_be_constant, sets_field, super_named, names_method_with, describes_a_field, describes_method_with, field_key, method_key, is_member_among, names_constant_value, names_code, names_frames}
use Rattle.jl_class.specs.Spelling.{Member, handler_bytes, code_bytes, IsConstant, IsFrames, IsCode, IsField, IsMethod, IsClass, HaveNests}
use Rattle.jl_classfile.specs.Spelling.{Attribute, attribute_bytes, is_some_that, contents, AreAttributes, AtMostOne, IsTable, HasName}
use Rattle.jl_logic.specs.Lists.{Match}
use Rattle.jl_classfile.specs.Front.{is_version}
use Rattle.jl_classw.specs.declared.fault.WriteFault.{WriteFault}
use Rattle.jl_classw.specs.declared.entry.Constant.{Constant}
use Rattle.jl_classw.specs.declared.entry.NewEntry.{NewEntry}
use Rattle.jl_classw.specs.Built.{IsPool, IsBuilt, IsSuper, IsShortEntry, tag_of_constant, MayHave, AreShortFrames, IsSmall, IsFit, IsSound, AreCodeNumbers}
use Rattle.jl_classw.specs.Building.{text_entered, class_entered, super_entered, constant_entered, new_entered, some_constant_entered, optional_entered, attribute_entered, frames_entered, some_code_entered, code_entered, has_many_handlers}
use Rattle.jl_classw.proofs.IndexLaws.{is_super, not_first}
use Rattle.jl_classw.proofs.WholeLaws.{is_class, bytes_by}
use Rattle.jl_classw.proofs.PartLaws.{kept_contents, match_length, code_length}
use Rattle.jl_classw.proofs.PoolGrowth.{Grown, grown_self, grown_then, there_still, small_index, few_of, text_is_entered}
use Rattle.jl_classw.proofs.DeclaresGrowth.{declares_still}
use Rattle.jl_classw.proofs.EnteredLaws.{text_that_is, text_of_is, class_named_is, attribute_is_entered, class_is_entered, constant_is_entered, new_is_entered}
use Rattle.jl_classw.proofs.DistinctLaws.{distinct_members}

-- ---- the file

pub built_file : (c : Class) → IsBuilt c → (bytes : List ℕ) × IsClass bytes c
built_file c b = (bytes_by c b.parts, is_class c b.parts b.pool.es b.minor b.version b.pool.first b.pool.right b.pool.inside b.declares)

-- ---- a pool that grew

pub pool_built : (c : Class) (more : List Entry) → IsBuilt c → Grown c.pool more → IsBuilt (record c { pool = more })
pool_built c more b g = record { pool = g.right; minor = b.minor; version = b.version; parts = b.parts; declares = declares_still c.pool more g b.parts c refl b.declares }

pub entry_built : (c : Class) (e : NewEntry) (more : List Entry) (i : ℕ) → IsBuilt c → IsShortEntry e → IsSound e → new_entered c.pool e ≡ Ok (more, i) → IsBuilt (record c { pool = more })
entry_built c e more i b short sound h = pool_built c more b (new_is_entered c.pool e more i b.pool short sound h)

-- ---- rows

match_push : {A B : Type 0} (R : A → B → Type 0) (xs : List A) (ys : List B) (a : A) (b : B) → Match R xs ys → R a b → Match R (xs ++ a ∷ []) (ys ++ b ∷ [])
match_push R [] [] a b m r = (r, tt)
match_push R (x ∷ xs) (y ∷ ys) a b m r = (m.0, match_push R xs ys a b m.1 r)
match_push R [] (y ∷ ys) a b m r = absurd m
match_push R (x ∷ xs) [] a b m r = absurd m

table_push : {B : Type 0} (R : Member → B → Type 0) (key : B → MemberKey) (rows : List Member) (members : List B) (m : Member) (x : B) → IsTable R key rows members → R m x → is_member_among (key x) (map key members) ≡ false → length members < 65535
    → IsTable R key (rows ++ m ∷ []) (members ++ x ∷ [])
table_push R key rows members m x t r fresh room =
    let l = match_length R rows members t.each in
    let n = length_push rows m in
    record { few = omega (arith, l, n, room); each = match_push R rows members m x t.each r; distinct = distinct_members key members x t.distinct fresh }

-- ---- the front of a class

super_of : (pool : List Entry) (i : ℕ) (name : List ℕ) → IsPool pool → class_named pool i ≡ Some name → super_named pool i ≡ Some (Some name)
super_of pool i name is e = is_super pool i name (not_first is.es i name (subst (λ (l : List Entry). class_named l i ≡ Some name) is.first e)) e

super_is : (pool : List Entry) (name : Option (List ℕ)) (more : List Entry) (i : ℕ) → IsPool pool → IsSuper name → IfSome name IsUtf8 → super_entered pool name ≡ Ok (more, i) → Grown pool more × HasName (super_named more) i name
super_is pool None more i is right utf8 h =
    let same = ok_is (pool, 0) (more, i) h in
    subst (λ (x : List Entry × ℕ). Grown pool x.0 × HasName (super_named x.0) x.1 None) same (grown_self pool is, (omega arith, refl))
super_is pool (Some name) more i is right utf8 h =
    let e = class_is_entered pool name more i is utf8 right.1 h in
    let named = class_named_is more i e.name name e.there e.text utf8 right.0 in
    (e.grown, (small_index more i (entries.Class e.name) e.grown.right e.there, super_of more i name e.grown.right named))

-- nests of a class with other members
nests_kept : (c : Class) (interfaces : List (List ℕ)) (fields : List FieldDecl) (methods : List MethodDecl) (more : List Entry) (xs : List Attribute) → HaveNests (record c { pool = more }) xs
    → HaveNests (record c { interfaces = interfaces; fields = fields; methods = methods; pool = more }) xs
nests_kept c interfaces fields methods more xs h = record {
  host = h.host;
  members = h.members;
  listed = h.listed;
  members_are = h.members_are;
  apart = h.apart;
  record_kept = h.record_kept;
  components = h.components;
  permits = h.permits;
  extended = h.extended;
}

-- ---- an interface

pub interface_built : (c : Class) (name : List ℕ) (more : List Entry) (i : ℕ) → IsBuilt c → names_a_class name ≡ true → IsUtf8 name → IsShort name → length c.interfaces < 65535 → class_entered c.pool name ≡ Ok (more, i)
    → IsBuilt (record c { interfaces = c.interfaces ++ name ∷ []; pool = more })
interface_built c name more i b right utf8 short room h =
    let e = class_is_entered c.pool name more i b.pool utf8 short h in
    let d = declares_still c.pool more e.grown b.parts c refl b.declares in
    let p = b.parts in
    let l = match_length (HasName (class_named more)) p.interfaces c.interfaces d.interfaces in
    let n = length_push p.interfaces i in
    record {
      pool = e.grown.right;
      minor = b.minor;
      version = b.version;
      parts = record p { interfaces = p.interfaces ++ i ∷ [] };
      declares = record {
        flags = d.flags;
        flagged = d.flagged;
        this = d.this;
        super = d.super;
        extends = d.extends;
        few = omega (arith, l, n, room);
        interfaces = match_push (HasName (class_named more)) p.interfaces c.interfaces i name d.interfaces (small_index more i (entries.Class e.name) e.grown.right e.there, class_named_is more i e.name name e.there e.text utf8 right);
        fields = d.fields;
        methods = d.methods;
        attributes = d.attributes;
        nests = nests_kept c (c.interfaces ++ name ∷ []) c.fields c.methods more p.attributes d.nests;
      };
    }

-- ---- an attribute alone

one_fits : (pool : List Entry) (index : ℕ) (name content : List ℕ) → IsPool pool → slice_get pool index ≡ Some (entries.Utf8 (utf16 name)) → IsUtf8 name → length content < 4294967296 → AreAttributes pool (record { index = index; content = content } ∷ [])
one_fits pool index name content is there utf8 short = record { few = omega arith; fit = ((small_index pool index (entries.Utf8 (utf16 name)) is there, short, (name, text_of_is pool index name there utf8)), tt) }

one_content : (pool : List Entry) (is_read : List ℕ → Bool) (index : ℕ) (name content : List ℕ) → slice_get pool index ≡ Some (entries.Utf8 (utf16 name)) → IsUtf8 name → is_read name ≡ true
    → contents pool is_read (record { index = index; content = content } ∷ []) ≡ content ∷ []
one_content pool is_read index name content there utf8 right = kept_contents pool is_read (record { index = index; content = content }) [] (ap (is_some_that is_read) (text_of_is pool index name there utf8) ∙ right)

-- ---- a field

-- the attributes of a field, over a pool that grew
record HasConstant (flags : ℕ) (desc : List ℕ) (pool more : List Entry) (index : Option ℕ) : Type 0 where
  pub grown : Grown pool more
  pub attributes : List Attribute
  pub fit : AreAttributes more attributes
  pub constant : AtMostOne (IsConstant flags desc more) (contents more names_constant_value attributes) index

tag_sets : (flags : ℕ) (desc : List ℕ) (pool : List Entry) (i tag : ℕ) → tag_of pool i ≡ Some tag → may_be_constant flags desc (Some tag) ≡ true → sets_field flags desc pool i ≡ true
tag_sets flags desc pool i tag e right = ap (may_be_constant flags desc) e ∙ right

has_constant : (flags : ℕ) (desc : List ℕ) (pool : List Entry) (o : Option Constant) (more : List Entry) (index : Option ℕ) → IsPool pool → IsUtf8 (codes "ConstantValue") → IsShort (codes "ConstantValue") → MayHave flags desc o → IfSome o IsFit
    → optional_entered pool o ≡ Ok (more, index) → HasConstant flags desc pool more index
unfolding some_constant_entered
has_constant flags desc pool None more index is utf8 short may fit h =
    subst (λ (x : List Entry × Option ℕ). HasConstant flags desc pool x.0 x.1) (ok_is (pool, None) (more, index) h)
    (record { grown = grown_self pool is; attributes = []; fit = record { few = omega arith; fit = tt }; constant = refl })
has_constant flags desc pool (Some k) more index is utf8 short may fit h =
    let name = codes "ConstantValue" in
    let a = bind_ok (text_entered pool name) (λ text. constant_entered text.0 k >>= λ value. Ok (value.0, Some value.1)) (more, index) h in
    let b = bind_ok (constant_entered a.0.0 k) (λ value. Ok (value.0, Some value.1)) (more, index) a.2 in
    let e = text_is_entered pool name a.0.0 a.0.1 is utf8 short a.1 in
    let f = constant_is_entered a.0.0 k b.0.0 b.0.1 e.grown.right may.1 fit b.1 in
    let there = there_still a.0.0 b.0.0 f.grown a.0.1 (entries.Utf8 (utf16 name)) e.there in
    let made : HasConstant flags desc pool b.0.0 (Some b.0.1) = record {
      grown = grown_then pool a.0.0 b.0.0 e.grown f.grown;
      attributes = record { index = a.0.1; content = two b.0.1 } ∷ [];
      fit = one_fits b.0.0 a.0.1 name (two b.0.1) f.grown.right there utf8 (omega arith);
      constant = (two b.0.1, one_content b.0.0 names_constant_value a.0.1 name (two b.0.1) there utf8 refl, (f.small, refl, tag_sets flags desc b.0.0 b.0.1 (tag_of_constant k) f.tagged may.0));
    } in
    subst (λ (x : List Entry × Option ℕ). HasConstant flags desc pool x.0 x.1) (ok_is (b.0.0, Some b.0.1) (more, index) b.2) made

pub field_built : (c : Class) (flags : ℕ) (name desc : List ℕ) (o : Option Constant) (named described more : List Entry) (index : Option ℕ) → IsBuilt c → IsUtf8 (codes "ConstantValue") → IsShort (codes "ConstantValue") → flags < 65536
    → are_field_flags (is_interface c.flags) flags ≡ true → names_a_field name ≡ true → describes_a_field desc ≡ true → is_member_among (record { name = name; desc = desc }) (map field_key c.fields) ≡ false
    → IsUtf8 name → IsShort name → IsUtf8 desc → IsShort desc → MayHave flags desc o → IfSome o IsFit → length c.fields < 65535
    → attribute_entered c.pool name ≡ Ok named → attribute_entered named desc ≡ Ok described → optional_entered described o ≡ Ok (more, index)
    → IsBuilt (record c { fields = c.fields ++ (record { flags = flags; name = name; desc = desc; constant = index }) ∷ []; pool = more })
field_built c flags name desc o named described more index b utf8_attribute short_attribute small right right_name right_desc fresh utf8 short utf8_desc short_desc may fit room h i j =
    let p = b.parts in
    let e = attribute_is_entered c.pool name named b.pool utf8 short h in
    let f = attribute_is_entered named desc described e.grown.right utf8_desc short_desc i in
    let k = has_constant flags desc described o more index f.grown.right utf8_attribute short_attribute may fit j in
    let rest = grown_then named described more f.grown k.grown in
    let name_there = there_still named more rest e.index (entries.Utf8 (utf16 name)) e.there in
    let desc_there = there_still described more k.grown f.index (entries.Utf8 (utf16 desc)) f.there in
    let d = declares_still c.pool more (grown_then c.pool named more e.grown rest) p c refl b.declares in
    let field : FieldDecl = record { flags = flags; name = name; desc = desc; constant = index } in
    let member : Member = record { flags = flags; name = e.index; desc = f.index; attributes = k.attributes } in
    let is : IsField (is_interface c.flags) more member field = record {
      fits = record { flags = small; name = small_index more e.index (entries.Utf8 (utf16 name)) k.grown.right name_there; desc = small_index more f.index (entries.Utf8 (utf16 desc)) k.grown.right desc_there; attributes = k.fit };
      flags = refl;
      flagged = right;
      named = text_that_is more e.index names_a_field name name_there utf8 right_name;
      described = text_that_is more f.index describes_a_field desc desc_there utf8_desc right_desc;
      constant = k.constant;
    } in
    record {
      pool = k.grown.right;
      minor = b.minor;
      version = b.version;
      parts = record p { fields = p.fields ++ member ∷ [] };
      declares = record {
        flags = d.flags;
        flagged = d.flagged;
        this = d.this;
        super = d.super;
        extends = d.extends;
        few = d.few;
        interfaces = d.interfaces;
        fields = table_push (IsField (is_interface c.flags) more) field_key p.fields c.fields member field d.fields is fresh room;
        methods = d.methods;
        attributes = d.attributes;
        nests = nests_kept c c.interfaces (c.fields ++ field ∷ []) c.methods more p.attributes d.nests;
      };
    }

-- ---- a method

-- the attributes of a Code attribute, over a pool that grew
record HasFrames (pool more : List Entry) (o : Option (List ℕ)) : Type 0 where
  pub grown : Grown pool more
  pub attributes : List Attribute
  pub fit : AreAttributes more attributes
  pub frames : AtMostOne IsFrames (contents more names_frames attributes) o
  pub short : length (flat_map attribute_bytes attributes) ≤ 4194310

has_frames : (pool : List Entry) (o : Option (List ℕ)) (more : List Entry) → IsPool pool → IsUtf8 (codes "StackMapTable") → IsShort (codes "StackMapTable") → AreShortFrames o → frames_entered pool o ≡ Ok more → HasFrames pool more o
has_frames pool None more is utf8 short few h =
    subst (λ (l : List Entry). HasFrames pool l None) (ok_is pool more h)
    (record { grown = grown_self pool is; attributes = []; fit = record { few = omega arith; fit = tt }; frames = refl; short = omega arith })
has_frames pool (Some frames) more is utf8 short few h =
    let name = codes "StackMapTable" in
    let e = attribute_is_entered pool name more is utf8 short h in
    let a : Attribute = record { index = e.index; content = frames } in
    let l = length-append (attribute_bytes a) [] in
    let m = ap length (flat_map-cons attribute_bytes a []) in
    record {
      grown = e.grown;
      attributes = a ∷ [];
      fit = one_fits more e.index name frames e.grown.right e.there utf8 (omega (arith, few));
      frames = (frames, one_content more names_frames e.index name frames e.there utf8 refl, refl);
      short = omega (arith, l, m, few);
    }

-- the attributes of a method, over a pool that grew
record HasCode (pool more : List Entry) (o : Option CodeBytes) : Type 0 where
  pub grown : Grown pool more
  pub attributes : List Attribute
  pub fit : AreAttributes more attributes
  pub code : AtMostOne (IsCode more) (contents more names_code attributes) o

handlers_length : (hs : List Handler) → length (flat_map handler_bytes hs) ≡ 8 * length hs
handlers_length [] = refl
handlers_length (h ∷ hs) =
    let l = length-append (handler_bytes h) (flat_map handler_bytes hs) in
    let m = ap length (flat_map-cons handler_bytes h hs) in
    let r = handlers_length hs in
    omega (arith, l, m, r)

has_code_of : (pool : List Entry) (o : Option CodeBytes) (more : List Entry) → IsPool pool → IsUtf8 (codes "Code") → IsShort (codes "Code") → IsUtf8 (codes "StackMapTable") → IsShort (codes "StackMapTable") → IsSmall o → has_many_handlers o ≡ false → AreCodeNumbers o
    → code_entered pool o ≡ Ok more → HasCode pool more o
unfolding some_code_entered
has_code_of pool None more is utf8_code short_code utf8_frames short_frames small counted numbers h =
    subst (λ (l : List Entry). HasCode pool l None) (ok_is pool more h) (record { grown = grown_self pool is; attributes = []; fit = record { few = omega arith; fit = tt }; code = refl })
has_code_of pool (Some c) more is utf8_code short_code utf8_frames short_frames small counted numbers h =
    let name = codes "Code" in
    let a = bind_ok (attribute_entered pool name) (λ named. frames_entered named c.frames) more h in
    let e = attribute_is_entered pool name a.0 is utf8_code short_code a.1 in
    let f = has_frames a.0 c.frames more e.grown.right utf8_frames short_frames small.frames a.2 in
    let there = there_still a.0 more f.grown e.index (entries.Utf8 (utf16 name)) e.there in
    let content = code_bytes c f.attributes in
    let size = code_length c f.attributes in
    let handlers = handlers_length c.handlers in
    let most = ltb-false 65535 (length c.handlers) counted in
    let few : length c.handlers < 65536 = omega (arith, most) in
    let short = small.code in
    let frames = f.short in
    let length_fits : length content < 4294967296 = omega (arith, size, handlers, few, short, frames) in
    let code : IsCode more content c = record {
      attributes = f.attributes;
      is = refl;
      fits = record { max_stack = numbers.max_stack; max_locals = numbers.max_locals; code = omega (arith, short); few = few; handlers = numbers.handlers };
      fit = f.fit;
      frames = f.frames;
    } in
    record {
      grown = grown_then pool a.0 more e.grown f.grown;
      attributes = record { index = e.index; content = content } ∷ [];
      fit = one_fits more e.index name content f.grown.right there utf8_code length_fits;
      code = (content, one_content more names_code e.index name content there utf8_code refl, code);
    }

pub method_built : (c : Class) (flags : ℕ) (name desc : List ℕ) (o : Option CodeBytes) (named described more : List Entry) → IsBuilt c → IsUtf8 (codes "Code") → IsShort (codes "Code") → IsUtf8 (codes "StackMapTable") → IsShort (codes "StackMapTable") → flags < 65536
    → are_method_flags flags ≡ true → names_method_with flags name ≡ true → describes_method_with name desc ≡ true → is_some o ≡ has_code flags → is_member_among (record { name = name; desc = desc }) (map method_key c.methods) ≡ false
    → IsUtf8 name → IsShort name → IsUtf8 desc → IsShort desc → IsSmall o → has_many_handlers o ≡ false → AreCodeNumbers o → length c.methods < 65535
    → attribute_entered c.pool name ≡ Ok named → attribute_entered named desc ≡ Ok described → code_entered described o ≡ Ok more
    → IsBuilt (record c { methods = c.methods ++ (record { flags = flags; name = name; desc = desc; code = o }) ∷ []; pool = more })
method_built c flags name desc o named described more b utf8_code short_code utf8_frames short_frames small right right_name right_desc has fresh utf8 short utf8_desc short_desc few counted numbers room h i j =
    let p = b.parts in
    let e = attribute_is_entered c.pool name named b.pool utf8 short h in
    let f = attribute_is_entered named desc described e.grown.right utf8_desc short_desc i in
    let k = has_code_of described o more f.grown.right utf8_code short_code utf8_frames short_frames few counted numbers j in
    let rest = grown_then named described more f.grown k.grown in
    let name_there = there_still named more rest e.index (entries.Utf8 (utf16 name)) e.there in
    let desc_there = there_still described more k.grown f.index (entries.Utf8 (utf16 desc)) f.there in
    let d = declares_still c.pool more (grown_then c.pool named more e.grown rest) p c refl b.declares in
    let method : MethodDecl = record { flags = flags; name = name; desc = desc; code = o } in
    let member : Member = record { flags = flags; name = e.index; desc = f.index; attributes = k.attributes } in
    let is : IsMethod more member method = record {
      fits = record { flags = small; name = small_index more e.index (entries.Utf8 (utf16 name)) k.grown.right name_there; desc = small_index more f.index (entries.Utf8 (utf16 desc)) k.grown.right desc_there; attributes = k.fit };
      flags = refl;
      flagged = right;
      named = text_that_is more e.index (names_method_with flags) name name_there utf8 right_name;
      described = text_that_is more f.index (describes_method_with name) desc desc_there utf8_desc right_desc;
      code = k.code;
      has = has;
    } in
    record {
      pool = k.grown.right;
      minor = b.minor;
      version = b.version;
      parts = record p { methods = p.methods ++ member ∷ [] };
      declares = record {
        flags = d.flags;
        flagged = d.flagged;
        this = d.this;
        super = d.super;
        extends = d.extends;
        few = d.few;
        interfaces = d.interfaces;
        fields = d.fields;
        methods = table_push (IsMethod more) method_key p.methods c.methods member method d.methods is fresh room;
        attributes = d.attributes;
        nests = nests_kept c c.interfaces c.fields (c.methods ++ method ∷ []) more p.attributes d.nests;
      };
    }

-- ---- a class with no members

first_pool : IsPool (entries.Unused ∷ [])
first_pool = record { es = []; first = refl; right = record { few = omega arith; spaced = tt; fit = tt; refer = tt }; inside = refl }

pub class_built : (major flags : ℕ) (name : List ℕ) (super_name : Option (List ℕ)) (this more : List Entry) (i j : ℕ) → is_version major 0 ≡ true → flags < 65536 → are_class_flags flags ≡ true → names_a_class name ≡ true → IsUtf8 name → IsShort name
    → IsSuper super_name → IfSome super_name IsUtf8 → may_extend flags name super_name ≡ true
    → class_entered (entries.Unused ∷ []) name ≡ Ok (this, i) → super_entered this super_name ≡ Ok (more, j)
    → IsBuilt (record { major = major; minor = 0; flags = flags; name = name; super_name = super_name; interfaces = []; fields = []; methods = []; nest_host = None; nest_members = []; permits = None; pool = more })
class_built major flags name super_name this more i j version small right right_name utf8 short super utf8_super extends h k =
    let e = class_is_entered (entries.Unused ∷ []) name this i first_pool utf8 short h in
    let s = super_is this super_name more j e.grown.right super utf8_super k in
    let there = there_still this more s.0 i (entries.Class e.name) e.there in
    let text = there_still this more s.0 e.name (entries.Utf8 (utf16 name)) e.text in
    record {
      pool = s.0.right;
      minor = omega arith;
      version = version;
      parts = record { this = i; super = j; interfaces = []; fields = []; methods = []; attributes = [] };
      declares = record {
        flags = small;
        flagged = right;
        this = (small_index more i (entries.Class e.name) s.0.right there, class_named_is more i e.name name there text utf8 right_name);
        super = s.1;
        extends = extends;
        few = omega arith;
        interfaces = tt;
        fields = record { few = omega arith; each = tt; distinct = tt };
        methods = record { few = omega arith; each = tt; distinct = tt };
        attributes = record { few = omega arith; fit = tt };
        nests = record { host = refl; members = None; listed = refl; members_are = refl; apart = refl; record_kept = None; components = refl; permits = refl; extended = refl };
      };
    }

-- ---- texts of attributes

is_ascii : List ℕ → Bool
is_ascii [] = true
is_ascii (b ∷ bs) = ltb b 128 && is_ascii bs

ascii_by : (text : List ℕ) → is_ascii text ≡ true → IsAscii text
unfolding is_ascii
ascii_by [] e i = omega arith
ascii_by (b ∷ bs) e zero = ltb-true b 128 (and_parts (ltb b 128) (is_ascii bs) e).0
ascii_by (b ∷ bs) e (suc i) = ascii_by bs (and_parts (ltb b 128) (is_ascii bs) e).1 i

ascii_constant : IsAscii (codes "ConstantValue")
unfolding is_ascii
ascii_constant = ascii_by (codes "ConstantValue") refl

ascii_code : IsAscii (codes "Code")
unfolding is_ascii
ascii_code = ascii_by (codes "Code") refl

ascii_frames : IsAscii (codes "StackMapTable")
unfolding is_ascii
ascii_frames = ascii_by (codes "StackMapTable") refl

ascii_host : IsAscii (codes "NestHost")
unfolding is_ascii
ascii_host = ascii_by (codes "NestHost") refl

ascii_members : IsAscii (codes "NestMembers")
unfolding is_ascii
ascii_members = ascii_by (codes "NestMembers") refl

ascii_record : IsAscii (codes "Record")
unfolding is_ascii
ascii_record = ascii_by (codes "Record") refl

ascii_permits : IsAscii (codes "PermittedSubclasses")
unfolding is_ascii
ascii_permits = ascii_by (codes "PermittedSubclasses") refl

pub utf8_constant : IsUtf8 (codes "ConstantValue")
utf8_constant = IsUtf8-from_ascii (codes "ConstantValue") ascii_constant

pub utf8_code : IsUtf8 (codes "Code")
utf8_code = IsUtf8-from_ascii (codes "Code") ascii_code

pub utf8_frames : IsUtf8 (codes "StackMapTable")
utf8_frames = IsUtf8-from_ascii (codes "StackMapTable") ascii_frames

ascii_short : (text units : List ℕ) → IsAscii text → flat_map encode_utf16 text ≡ units → length (text_bytes units) < 65536 → IsShort text
ascii_short text units ascii same short = subst (λ (us : List ℕ). length (text_bytes us) < 65536) (sym (ap (flat_map encode_utf16) (chars-IsAscii text ascii) ∙ same)) short

pub short_constant : IsShort (codes "ConstantValue")
short_constant = ascii_short (codes "ConstantValue") (codes "ConstantValue") ascii_constant refl (lit< tt)

pub short_code : IsShort (codes "Code")
short_code = ascii_short (codes "Code") (codes "Code") ascii_code refl (lit< tt)

pub short_frames : IsShort (codes "StackMapTable")
short_frames = ascii_short (codes "StackMapTable") (codes "StackMapTable") ascii_frames refl (lit< tt)

pub utf8_form : (form : AttrForm) → IsUtf8 (name_of form)
utf8_form forms.ConstantIndex = utf8_constant
utf8_form forms.CodeBody = utf8_code
utf8_form forms.Frames = utf8_frames
utf8_form forms.Host = IsUtf8-from_ascii (codes "NestHost") ascii_host
utf8_form forms.Members = IsUtf8-from_ascii (codes "NestMembers") ascii_members
utf8_form forms.Components = IsUtf8-from_ascii (codes "Record") ascii_record
utf8_form forms.Permits = IsUtf8-from_ascii (codes "PermittedSubclasses") ascii_permits

pub short_form : (form : AttrForm) → IsShort (name_of form)
short_form forms.ConstantIndex = short_constant
short_form forms.CodeBody = short_code
short_form forms.Frames = short_frames
short_form forms.Host = ascii_short (codes "NestHost") (codes "NestHost") ascii_host refl (lit< tt)
short_form forms.Members = ascii_short (codes "NestMembers") (codes "NestMembers") ascii_members refl (lit< tt)
short_form forms.Components = ascii_short (codes "Record") (codes "Record") ascii_record refl (lit< tt)
short_form forms.Permits = ascii_short (codes "PermittedSubclasses") (codes "PermittedSubclasses") ascii_permits refl (lit< tt)

-- ---- what a call leaves

abbrev pub Kept : Class → Type 0
Kept c = (length c.pool < 65536) × IsBuilt c

pub kept : (c : Class) → IsBuilt c → Kept c
kept c b = (few_of c.pool b.pool, b)

-- the pool that was given, and nothing behind it
given : {A : Type 0} (f : List Entry → A) (pool front new : List Entry) → front ≡ pool → new ≡ [] → f (front ++ new) ≡ f pool
given f pool front new e n = ap f (ap₂ (λ (a b : List Entry). a ++ b) e n ∙ append-nil pool)

pub interface_kept : (c : Class) (front new added more : List Entry) (i : ℕ) (row name : List ℕ) (rows : List (List ℕ)) → IsBuilt c → names_a_class name ≡ true → IsUtf8 name → IsShort name → length c.interfaces < 65535
    → front ≡ c.pool → new ≡ [] → class_entered (front ++ new) name ≡ Ok (front ++ added, i) → row ≡ name → rows ≡ c.interfaces ++ row ∷ [] → more ≡ c.pool ++ added
    → Kept (record c { interfaces = rows; pool = more })
interface_kept c front new added more i row name rows b right utf8 short room e n h same rows_are more_is =
    let entered_more : class_entered c.pool name ≡ Ok (more, i) = sym (given (λ (l : List Entry). class_entered l name) c.pool front new e n) ∙ (h ∙ ap (λ (l : List Entry). Ok (l, i)) (ap (λ (l : List Entry). l ++ added) e ∙ sym more_is)) in
    let listed : c.interfaces ++ name ∷ [] ≡ rows = sym (rows_are ∙ ap (λ (r : List ℕ). c.interfaces ++ r ∷ []) same) in
    let built = interface_built c name more i b right utf8 short room entered_more in
    kept (record c { interfaces = rows; pool = more }) (subst (λ (l : List (List ℕ)). IsBuilt (record c { interfaces = l; pool = more })) listed built)

pub entry_kept : (c : Class) (front new added more : List Entry) (i : ℕ) (e : NewEntry) → IsBuilt c → IsShortEntry e → IsSound e
    → front ≡ c.pool → new ≡ [] → new_entered (front ++ new) e ≡ Ok (front ++ added, i) → more ≡ c.pool ++ added
    → Kept (record c { pool = more })
entry_kept c front new added more i e b short sound same n h more_is =
    let entered_more : new_entered c.pool e ≡ Ok (more, i) = sym (given (λ (l : List Entry). new_entered l e) c.pool front new same n) ∙ (h ∙ ap (λ (l : List Entry). Ok (l, i)) (ap (λ (l : List Entry). l ++ added) same ∙ sym more_is)) in
    kept (record c { pool = more }) (entry_built c e more i b short sound entered_more)

-- what was entered behind one pool, behind the same pool
over : (f : List Entry → Result (List Entry) WriteFault) (pool front before after : List Entry) → front ≡ pool → f (front ++ before) ≡ Ok (front ++ after) → f (pool ++ before) ≡ Ok (pool ++ after)
over f pool front before after e h = subst (λ (l : List Entry). f (l ++ before) ≡ Ok (l ++ after)) e h

first_over : (f : List Entry → Result (List Entry) WriteFault) (pool front new after : List Entry) → front ≡ pool → new ≡ [] → f (front ++ new) ≡ Ok (front ++ after) → f pool ≡ Ok (pool ++ after)
first_over f pool front new after e n h = sym (given f pool front new e n) ∙ (h ∙ ap (λ (l : List Entry). Ok (l ++ after)) e)

pub field_kept : (c : Class) (one other third_front new first second third more : List Entry) (flags : ℕ) (row_name row_desc name desc : List ℕ) (o : Option Constant) (index : Option ℕ) (rows : List FieldDecl) → IsBuilt c → flags < 65536
    → are_field_flags (is_interface c.flags) flags ≡ true → names_a_field name ≡ true → describes_a_field desc ≡ true → is_member_among (record { name = name; desc = desc }) (map field_key c.fields) ≡ false
    → IsUtf8 name → IsUtf8 desc → IsShort name × IsShort desc → MayHave flags desc o → IfSome o IsFit → length c.fields < 65535
    → one ≡ c.pool → other ≡ c.pool → third_front ≡ c.pool → new ≡ [] → attribute_entered (one ++ new) name ≡ Ok (one ++ first) → attribute_entered (other ++ first) desc ≡ Ok (other ++ second) → optional_entered (third_front ++ second) o ≡ Ok (third_front ++ third, index)
    → row_name ≡ name → row_desc ≡ desc → rows ≡ c.fields ++ (record { flags = flags; name = row_name; desc = row_desc; constant = index }) ∷ [] → more ≡ c.pool ++ third
    → Kept (record c { fields = rows; pool = more })
field_kept c one other third_front new first second third more flags row_name row_desc name desc o index rows b small right right_name right_desc fresh utf8 utf8_desc short may fit room e f g n h i j same_name same_desc rows_are more_is =
    let named = first_over (λ (l : List Entry). attribute_entered l name) c.pool one new first e n h in
    let described = over (λ (l : List Entry). attribute_entered l desc) c.pool other first second f i in
    let valued : optional_entered (c.pool ++ second) o ≡ Ok (more, index) = subst (λ (l : List Entry). optional_entered (l ++ second) o ≡ Ok (l ++ third, index)) g j ∙ ap (λ (l : List Entry). Ok (l, index)) (sym more_is) in
    let field : List ℕ → List ℕ → FieldDecl = λ n d. record { flags = flags; name = n; desc = d; constant = index } in
    let listed : c.fields ++ field name desc ∷ [] ≡ rows = sym (rows_are ∙ ap₂ (λ (n d : List ℕ). c.fields ++ field n d ∷ []) same_name same_desc) in
    let built = field_built c flags name desc o (c.pool ++ first) (c.pool ++ second) more index b utf8_constant short_constant small right right_name right_desc fresh utf8 short.0 utf8_desc short.1 may fit room named described valued in
    kept (record c { fields = rows; pool = more }) (subst (λ (l : List FieldDecl). IsBuilt (record c { fields = l; pool = more })) listed built)

pub method_kept : (c : Class) (one other third_front new first second third more : List Entry) (flags : ℕ) (row_name row_desc name desc : List ℕ) (o : Option CodeBytes) (rows : List MethodDecl) → IsBuilt c → flags < 65536
    → are_method_flags flags ≡ true → names_method_with flags name ≡ true → describes_method_with name desc ≡ true → is_some o ≡ has_code flags → is_member_among (record { name = name; desc = desc }) (map method_key c.methods) ≡ false
    → IsUtf8 name → IsUtf8 desc → IsShort name × IsShort desc → IsSmall o → has_many_handlers o ≡ false → AreCodeNumbers o → length c.methods < 65535
    → one ≡ c.pool → other ≡ c.pool → third_front ≡ c.pool → new ≡ [] → attribute_entered (one ++ new) name ≡ Ok (one ++ first) → attribute_entered (other ++ first) desc ≡ Ok (other ++ second) → code_entered (third_front ++ second) o ≡ Ok (third_front ++ third)
    → row_name ≡ name → row_desc ≡ desc → rows ≡ c.methods ++ (record { flags = flags; name = row_name; desc = row_desc; code = o }) ∷ [] → more ≡ c.pool ++ third
    → Kept (record c { methods = rows; pool = more })
method_kept c one other third_front new first second third more flags row_name row_desc name desc o rows b small right right_name right_desc has fresh utf8 utf8_desc short few counted numbers room e f g n h i j same_name same_desc rows_are more_is =
    let named = first_over (λ (l : List Entry). attribute_entered l name) c.pool one new first e n h in
    let described = over (λ (l : List Entry). attribute_entered l desc) c.pool other first second f i in
    let coded : code_entered (c.pool ++ second) o ≡ Ok more = over (λ (l : List Entry). code_entered l o) c.pool third_front second third g j ∙ ap (λ (l : List Entry). Ok l) (sym more_is) in
    let method : List ℕ → List ℕ → MethodDecl = λ n d. record { flags = flags; name = n; desc = d; code = o } in
    let listed : c.methods ++ method name desc ∷ [] ≡ rows = sym (rows_are ∙ ap₂ (λ (n d : List ℕ). c.methods ++ method n d ∷ []) same_name same_desc) in
    let built = method_built c flags name desc o (c.pool ++ first) (c.pool ++ second) more b utf8_code short_code utf8_frames short_frames small right right_name right_desc has fresh utf8 short.0 utf8_desc short.1 few counted numbers room named described coded in
    kept (record c { methods = rows; pool = more }) (subst (λ (l : List MethodDecl). IsBuilt (record c { methods = l; pool = more })) listed built)

pub class_kept : (start front other new first second more : List Entry) (major flags : ℕ) (row_name name : List ℕ) (row_super super_name : Option (List ℕ)) (interfaces : List (List ℕ)) (fields : List FieldDecl) (methods : List MethodDecl) (members : List (List ℕ)) (i j : ℕ)
    → is_version major 0 ≡ true → flags < 65536 → are_class_flags flags ≡ true → names_a_class name ≡ true → IsUtf8 name → IsShort name → IsSuper super_name → IfSome super_name IsUtf8 → may_extend flags name super_name ≡ true
    → start ≡ entries.Unused ∷ [] → front ≡ start → other ≡ start → new ≡ [] → class_entered (front ++ new) name ≡ Ok (front ++ first, i) → super_entered (other ++ first) super_name ≡ Ok (other ++ second, j)
    → row_name ≡ name → row_super ≡ super_name → interfaces ≡ [] → fields ≡ [] → methods ≡ [] → members ≡ [] → more ≡ start ++ second
    → Kept (record { major = major; minor = 0; flags = flags; name = row_name; super_name = row_super; interfaces = interfaces; fields = fields; methods = methods; nest_host = None; nest_members = members; permits = None; pool = more })
class_kept start front other new first second more major flags row_name name row_super super_name interfaces fields methods members i j version small right right_name utf8 short super utf8_super extends begins e f n h k same_name same_super no_interfaces no_fields no_methods no_members more_is =
    let front_is : front ≡ entries.Unused ∷ [] = e ∙ begins in
    let other_is : other ≡ entries.Unused ∷ [] = f ∙ begins in
    let pool_is : more ≡ (entries.Unused ∷ []) ++ second = more_is ∙ ap (λ (l : List Entry). l ++ second) begins in
    let this : class_entered (entries.Unused ∷ []) name ≡ Ok ((entries.Unused ∷ []) ++ first, i) = sym (given (λ (l : List Entry). class_entered l name) (entries.Unused ∷ []) front new front_is n) ∙ (h ∙ ap (λ (l : List Entry). Ok (l ++ first, i)) front_is) in
    let above : super_entered ((entries.Unused ∷ []) ++ first) super_name ≡ Ok (more, j) = subst (λ (l : List Entry). super_entered (l ++ first) super_name ≡ Ok (l ++ second, j)) other_is k ∙ ap (λ (l : List Entry). Ok (l, j)) (sym pool_is) in
    let built = class_built major flags name super_name ((entries.Unused ∷ []) ++ first) more i j version small right right_name utf8 short super utf8_super extends this above in
    let made : List ℕ → Option (List ℕ) → List (List ℕ) → List FieldDecl → List MethodDecl → List (List ℕ) → Class = λ n s is fs ms ns. record { major = major; minor = 0; flags = flags; name = n; super_name = s; interfaces = is; fields = fs; methods = ms; nest_host = None; nest_members = ns; permits = None; pool = more } in
    let named_so = subst (λ (n : List ℕ). IsBuilt (made n super_name [] [] [] [])) (sym same_name) built in
    let extended = subst (λ (s : Option (List ℕ)). IsBuilt (made row_name s [] [] [] [])) (sym same_super) named_so in
    let listed = subst (λ (is : List (List ℕ)). IsBuilt (made row_name row_super is [] [] [])) (sym no_interfaces) extended in
    let fielded = subst (λ (fs : List FieldDecl). IsBuilt (made row_name row_super interfaces fs [] [])) (sym no_fields) listed in
    let whole = subst (λ (ms : List MethodDecl). IsBuilt (made row_name row_super interfaces fields ms [])) (sym no_methods) fielded in
    let alone = subst (λ (ns : List (List ℕ)). IsBuilt (made row_name row_super interfaces fields methods ns)) (sym no_members) whole in
    kept (made row_name row_super interfaces fields methods members) alone

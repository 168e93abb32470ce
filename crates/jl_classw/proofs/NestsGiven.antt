-- An attribute that a class is given leaves a class for which a file can be written.
use Rattle.std.proofs.Common.{◌≡◌, ℕ, ◌<◌, Bool, true, false, List, [], ◌∷◌, ◌++◌, length, Option, None, Some, Result, Ok, Err, refl, sym, ap, subst, ◌∙◌, arith, ltb, ◌+◌, inl, inr}
use Rattle.std.specs.Prelude.{is_some, is_ok, not, ◌&&◌, ◌==◌, IfErr, MatchOption, ⊤}
use Rattle.std.proofs.lemmas.Bool.{and_parts, cases_Bool, eqb-true, ltb-true}
use Rattle.jl_logic.specs.Answers.{Gives}
use Rattle.jl_class.specs.declared.fault.ClassFault.{ClassFault}
use Rattle.jl_class.specs.Faults.{told}
use Rattle.std.specs.List.{AllByRecursion}
use Rattle.jl_logic.specs.Order.{is_text}
use Rattle.jl_reading.specs.Reading.{◌>>=◌, IsBytes}
use Rattle.jl_reading.proofs.Steps.{bind_ok, bind_to, ok_is}
use Rattle.jl_names.specs.Utf16.{utf16}
use Rattle.jl_optable.specs.declared.attributes.AttrForm.{AttrForm}
use Rattle.jl_optable.specs.declared.attributes.AttrForm.TheVariants as forms
use Rattle.jl_optable.specs.declared.attributes.Site.TheVariants as sites
use Rattle.jl_optable.specs.Attributes.{attribute_form, name_of}
use Rattle.jl_pool.specs.declared.entry.Entry.{Entry}
use Rattle.jl_pool.specs.declared.entry.Entry.TheVariants as entries
use Rattle.jl_pool.specs.Pool.{text_of}
use Rattle.jl_classfile.specs.Spelling.{Attribute, AttributeFits, AreAttributes, contents, is_some_that}
use Rattle.jl_class.specs.Classes.{Class}
use Rattle.jl_class.specs.Meaning.{is_final, is_form}
use Rattle.jl_class.specs.Reading.{host_at, classes_at}
use Rattle.jl_class.specs.Spelling.{Declares, HaveNests, IsHost, AreClasses, names_form}
use Rattle.jl_class.proofs.NestContents.{host_stands, classes_stand}
use Rattle.jl_class.proofs.NestLaws.{form_named, form_other}
use Rattle.jl_classw.specs.Built.{IsBuilt}
use Rattle.jl_classw.specs.declared.fault.WriteFault.{WriteFault}
use Rattle.jl_classw.specs.Building.{Making, of_class, attribute_entered, has_no_nest, may_have_form, declaring, with_read, with_attribute}
use Rattle.jl_classw.specs.Writing.{nest_attributes, unless_none}
use Rattle.jl_classw.proofs.PartLaws.{kept_contents, passed_contents}
use Rattle.jl_classw.proofs.PoolGrowth.{small_index, few_of}
use Rattle.jl_classw.proofs.DeclaresGrowth.{declares_still, host_still, classes_still}
use Rattle.jl_classw.proofs.EnteredLaws.{IsText, text_of_is, attribute_is_entered}
use Rattle.jl_classw.proofs.NestsWritten.{There, there_of, members_there, fewer, nests_from, counted_length}
use Rattle.jl_classw.proofs.BuiltLaws.{Kept, kept, pool_built, utf8_form, short_form}

-- ---- forms

same_form : (form : AttrForm) → is_form form form ≡ true
same_form forms.ConstantIndex = refl
same_form forms.CodeBody = refl
same_form forms.Frames = refl
same_form forms.Host = refl
same_form forms.Members = refl
same_form forms.Components = refl
same_form forms.Permits = refl

-- a form that a name has is read by its own name
pub form_read : (major : ℕ) (name : List ℕ) (form : AttrForm) → attribute_form sites.Class major name ≡ Some form → names_form major form (name_of form) ≡ true
form_read major name form e =
    let named : names_form major form name ≡ true = ap (is_some_that (is_form form)) e ∙ same_form form in
    subst (λ (text : List ℕ). names_form major form text ≡ true) (form_named major form name named) named

-- ---- lists

none_there : {V : Type 0} (M : List ℕ → V → Type 0) (cs : List (List ℕ)) (o : Option V) → o ≡ None → There M cs o
none_there M cs None e v f = absurd cc
none_there M cs (Some w) e v f = absurd cc

some_there : {V : Type 0} (M : List ℕ → V → Type 0) (cs rest : List (List ℕ)) (c : List ℕ) (v : V) (o : Option V) → ((w : V) → o ≡ Some w → v ≡ w) → cs ≡ c ∷ rest → M c v → There M cs o
some_there M cs rest c v o same e m w f = (c, rest, e, subst (M c) (same w f) m)

unless_some : {A : Type 0} (xs ys : List A) → unless_none xs ≡ Some ys → xs ≡ ys
unless_some [] ys e = absurd cc
unless_some (x ∷ xs) ys e = cc

no_members : (names : List (List ℕ)) → names ≡ [] → unless_none names ≡ None
no_members [] e = refl
no_members (n ∷ names) e = absurd cc

alone : (host : Option (List ℕ)) (names : List (List ℕ)) → names ≡ [] → (is_some host && is_some (unless_none names)) ≡ false
alone None [] e = refl
alone (Some h) [] e = refl
alone host (n ∷ names) e = absurd cc

no_host : (host : Option (List ℕ)) (b : Bool) → host ≡ None → (is_some host && b) ≡ false
no_host None b e = refl
no_host (Some h) b e = absurd cc

-- ---- the class with one attribute more

module _ (c : Class) (b : IsBuilt c) (form : AttrForm) (more : List Entry) (entered : attribute_entered c.pool (name_of form) ≡ Ok more) where
  e : IsText c.pool (name_of form) more
  e = attribute_is_entered c.pool (name_of form) more b.pool (utf8_form form) (short_form form) entered

  d : Declares b.parts (record c { pool = more })
  d = declares_still c.pool more e.grown b.parts c refl b.declares

  few : length more < 65536
  few = few_of more e.grown.right

  text : text_of more e.index ≡ Some (name_of form)
  text = text_of_is more e.index (name_of form) e.there (utf8_form form)

  with_one : List ℕ → List Attribute
  with_one content = record { index = e.index; content = content } ∷ b.parts.attributes

  fit : (content : List ℕ) → length content < 4294967296 → AllByRecursion (AttributeFits more) (with_one content)
  unfolding with_one
  fit content short = ((small_index more e.index (entries.Utf8 (utf16 (name_of form))) e.grown.right e.there, short, (name_of form, text)), d.attributes.fit)

  first : (content : List ℕ) → names_form c.major form (name_of form) ≡ true → contents more (names_form c.major form) (with_one content) ≡ content ∷ contents more (names_form c.major form) b.parts.attributes
  unfolding with_one
  first content read = kept_contents more (names_form c.major form) (record { index = e.index; content = content }) b.parts.attributes (ap (is_some_that (names_form c.major form)) text ∙ read)

  other : (content : List ℕ) (k : AttrForm) → is_text (name_of form) (name_of k) ≡ false → contents more (names_form c.major k) (with_one content) ≡ contents more (names_form c.major k) b.parts.attributes
  unfolding with_one
  other content k differ = passed_contents more (names_form c.major k) (record { index = e.index; content = content }) b.parts.attributes (ap (is_some_that (names_form c.major k)) text ∙ form_other c.major form k differ)

  -- the class with this nest, where its written attributes say so
  built_with : (host : Option (List ℕ)) (members : List (List ℕ)) (permits : Option (List (List ℕ)))
      → AreAttributes more (nest_attributes more (record c { nest_host = host; nest_members = members; permits = permits; pool = more })) × HaveNests (record c { nest_host = host; nest_members = members; permits = permits; pool = more }) (nest_attributes more (record c { nest_host = host; nest_members = members; permits = permits; pool = more }))
      → IsBuilt (record c { nest_host = host; nest_members = members; permits = permits; pool = more })
  built_with host members permits written = record {
    pool = e.grown.right;
    minor = b.minor;
    version = b.version;
    parts = record (b.parts) { attributes = nest_attributes more (record c { nest_host = host; nest_members = members; permits = permits; pool = more }) };
    declares = record {
      flags = d.flags;
      flagged = d.flagged;
      this = d.this;
      super = d.super;
      extends = d.extends;
      few = d.few;
      interfaces = d.interfaces;
      fields = d.fields;
      methods = d.methods;
      attributes = written.0;
      nests = written.1;
    };
  }

  there_still : {V : Type 0} (M : List ℕ → V → Type 0) (content : List ℕ) (k : AttrForm) (o : Option V) → is_text (name_of form) (name_of k) ≡ false → There M (contents more (names_form c.major k) b.parts.attributes) o → There M (contents more (names_form c.major k) (with_one content)) o
  there_still M content k o differ t = subst (λ cs. There M cs o) (sym (other content k differ)) t

  permits_there : (content : List ℕ) → is_text (name_of form) (name_of forms.Permits) ≡ false → There (AreClasses more) (contents more (names_form c.major forms.Permits) (with_one content)) c.permits
  permits_there content differ = there_still (AreClasses more) content forms.Permits c.permits differ (there_of (AreClasses more) (contents more (names_form c.major forms.Permits) b.parts.attributes) c.permits d.nests.permits)

  pub host_built : (name content : List ℕ) → form ≡ forms.Host → names_form c.major form (name_of form) ≡ true → c.nest_members ≡ [] → IsHost c.pool content name
      → IsBuilt (record c { nest_host = Some name; pool = more })
  host_built name content is read none means =
      let means_more = host_still c.pool more e.grown content name means in
      let short : length content < 4294967296 = subst (λ (l : List ℕ). length l < 4294967296) (sym means.1) (omega arith) in
      built_with (Some name) c.nest_members c.permits (nests_from (record c { nest_host = Some name; pool = more }) (with_one content) few (fit content short)
      (some_there (IsHost more) (contents more (names_form c.major forms.Host) (with_one content)) (contents more (names_form c.major form) b.parts.attributes) content name (Some name) (λ w f. cc)
      (subst (λ k. contents more (names_form c.major k) (with_one content) ≡ content ∷ contents more (names_form c.major form) b.parts.attributes) is (first content read)) means_more)
      (none_there (AreClasses more) (contents more (names_form c.major forms.Members) (with_one content)) (unless_none c.nest_members) (no_members c.nest_members none))
      (permits_there content (ap (λ k. is_text (name_of k) (name_of forms.Permits)) is))
      (alone (Some name) c.nest_members none) d.nests.extended)

  classes_length : (content : List ℕ) (names : List (List ℕ)) → AreClasses c.pool content names → length content < 4294967296
  classes_length content names a =
      let m = counted_length a.indices in
      let few_indices = a.few in
      subst (λ (l : List ℕ). length l < 4294967296) (sym a.is) (omega (arith, m, few_indices))

  pub members_built : (names : List (List ℕ)) (content : List ℕ) → form ≡ forms.Members → names_form c.major form (name_of form) ≡ true → c.nest_host ≡ None → AreClasses c.pool content names
      → IsBuilt (record c { nest_members = names; pool = more })
  members_built names content is read none means =
      let means_more = classes_still c.pool more e.grown content names means in
      built_with c.nest_host names c.permits (nests_from (record c { nest_members = names; pool = more }) (with_one content) few (fit content (classes_length content names means))
      (none_there (IsHost more) (contents more (names_form c.major forms.Host) (with_one content)) c.nest_host none)
      (some_there (AreClasses more) (contents more (names_form c.major forms.Members) (with_one content)) (contents more (names_form c.major form) b.parts.attributes) content names (unless_none names) (unless_some names)
      (subst (λ k. contents more (names_form c.major k) (with_one content) ≡ content ∷ contents more (names_form c.major form) b.parts.attributes) is (first content read)) means_more)
      (permits_there content (ap (λ k. is_text (name_of k) (name_of forms.Permits)) is))
      (no_host c.nest_host (is_some (unless_none names)) none) d.nests.extended)

  pub permits_built : (names : List (List ℕ)) (content : List ℕ) → form ≡ forms.Permits → names_form c.major form (name_of form) ≡ true → is_final c.flags ≡ false → AreClasses c.pool content names
      → IsBuilt (record c { permits = Some names; pool = more })
  permits_built names content is read extensible means =
      let means_more = classes_still c.pool more e.grown content names means in
      let n = d.nests in
      built_with c.nest_host c.nest_members (Some names) (nests_from (record c { permits = Some names; pool = more }) (with_one content) few (fit content (classes_length content names means))
      (there_still (IsHost more) content forms.Host c.nest_host (ap (λ k. is_text (name_of k) (name_of forms.Host)) is) (there_of (IsHost more) (contents more (names_form c.major forms.Host) b.parts.attributes) c.nest_host n.host))
      (there_still (AreClasses more) content forms.Members (unless_none c.nest_members) (ap (λ k. is_text (name_of k) (name_of forms.Members)) is)
      (members_there (AreClasses more) (contents more (names_form c.major forms.Members) b.parts.attributes) n.members c.nest_members n.members_are n.listed))
      (some_there (AreClasses more) (contents more (names_form c.major forms.Permits) (with_one content)) (contents more (names_form c.major form) b.parts.attributes) content names (Some names) (λ w f. cc)
      (subst (λ k. contents more (names_form c.major k) (with_one content) ≡ content ∷ contents more (names_form c.major form) b.parts.attributes) is (first content read)) means_more)
      (fewer c.nest_host n.members c.nest_members n.members_are n.apart) extensible)

-- ---- what a content was read as

pub read_is : {X : Type 0} (r d : Result X ClassFault) (x : X) → Gives told (λ y. y) r d → r ≡ Ok x → d ≡ Ok x
read_is r d x g e = subst (λ s. Gives told (λ y. y) s d) e g

fault_told : {X Y : Type 0} (t o : Option ClassFault) (d : Result X ClassFault) (then : X → Result Y ClassFault) → t ≡ o → MatchOption t ⊤ (λ f. d ≡ Err f) → is_ok (d >>= then) ≡ true → o ≡ None
fault_told t None d then e g right = refl
fault_told t (Some f) d then e g right =
    let told_so : d ≡ Err f = subst (λ k. MatchOption k ⊤ (λ f. d ≡ Err f)) e g in
    absurd (let wrong : is_ok (Err f >>= then) ≡ true = subst (λ k. is_ok (k >>= then) ≡ true) told_so right in cc)

-- of a content that is right no fault is told
pub none_told : {X Y : Type 0} (r d : Result X ClassFault) (then : X → Result Y ClassFault) → Gives told (λ x. x) r d → is_ok (d >>= then) ≡ true → IfErr r (λ f. told f ≡ None)
none_told (Ok x) d then g right = tt
none_told (Err f) d then g right = fault_told (told f) (told f) d then refl g right

not_some : {A : Type 0} (o : Option A) → not (is_some o) ≡ true → o ≡ None
not_some None e = refl
not_some (Some x) e = absurd cc

none_in : {A : Type 0} (xs : List A) → (length xs == 0) ≡ true → xs ≡ []
none_in [] same = refl
none_in (x ∷ xs) same = absurd (let n = eqb-true (length (x ∷ xs)) 0 same in omega (arith, n))

not_true : (b : Bool) → not b ≡ true → b ≡ false
not_true false e = refl
not_true true e = absurd cc

pub host_right : (c : Class) (content : List ℕ) (r : Result (List ℕ) ClassFault) → may_have_form c content (Some forms.Host) ≡ true → Gives told (λ x. x) r (host_at c.pool 0 content 0) → IfErr r (λ f. told f ≡ None)
host_right c content r may g = none_told r (host_at c.pool 0 content 0) (λ name. Ok (record c { nest_host = Some name })) g (and_parts (has_no_nest c) (is_ok (declaring c forms.Host content)) may).1

pub members_right : (c : Class) (content : List ℕ) (r : Result (List (List ℕ)) ClassFault) → may_have_form c content (Some forms.Members) ≡ true → Gives told (λ x. x) r (classes_at c.pool 0 content 0) → IfErr r (λ f. told f ≡ None)
members_right c content r may g = none_told r (classes_at c.pool 0 content 0) (λ names. Ok (record c { nest_members = names })) g (and_parts (has_no_nest c) (is_ok (declaring c forms.Members content)) may).1

-- ---- what a call leaves

-- what a call makes of the class leaves the count
pub count_left : (b after : Making) (made : Result Class WriteFault) → of_class b made ≡ Ok after → after.attributes ≡ b.attributes
count_left b after made h = let s = bind_ok made (λ c. Ok (record b { class = c })) after h in sym (ap (λ (m : Making). m.attributes) (ok_is (record b { class = s.0 }) after s.2))

pub host_kept : (c : Class) (front added more : List Entry) (name content : List ℕ) (r : Result (List ℕ) ClassFault) → IsBuilt c → IsBytes content → may_have_form c content (Some forms.Host) ≡ true → names_form c.major forms.Host (name_of forms.Host) ≡ true
    → front ≡ c.pool → attribute_entered front (name_of forms.Host) ≡ Ok (front ++ added) → Gives told (λ x. x) r (host_at front 0 content 0) → r ≡ Ok name → more ≡ front ++ added
    → Kept (record c { nest_host = Some name; pool = more })
host_kept c front added more name content r b bytes may read same h g is more_is =
    let entered : attribute_entered c.pool (name_of forms.Host) ≡ Ok more = subst (λ (l : List Entry). attribute_entered l (name_of forms.Host) ≡ Ok (front ++ added)) same h ∙ ap (λ (l : List Entry). Ok l) (sym more_is) in
    let named : host_at c.pool 0 content 0 ≡ Ok name = subst (λ (l : List Entry). host_at l 0 content 0 ≡ Ok name) same (read_is r (host_at front 0 content 0) name g is) in
    let nothing = and_parts (not (is_some c.nest_host)) (length c.nest_members == 0) (and_parts (has_no_nest c) (is_ok (declaring c forms.Host content)) may).0 in
    let stands = host_stands c.pool 0 content 0 name bytes named in
    kept (record c { nest_host = Some name; pool = more }) (host_built c b forms.Host more entered name stands.0 refl read (none_in c.nest_members nothing.1) stands.1)

pub members_kept : (c : Class) (front added more : List Entry) (names : List (List ℕ)) (content : List ℕ) (r : Result (List (List ℕ)) ClassFault) → IsBuilt c → IsBytes content → may_have_form c content (Some forms.Members) ≡ true → names_form c.major forms.Members (name_of forms.Members) ≡ true
    → front ≡ c.pool → attribute_entered front (name_of forms.Members) ≡ Ok (front ++ added) → Gives told (λ x. x) r (classes_at front 0 content 0) → r ≡ Ok names → more ≡ front ++ added
    → Kept (record c { nest_members = names; pool = more })
members_kept c front added more names content r b bytes may read same h g is more_is =
    let entered : attribute_entered c.pool (name_of forms.Members) ≡ Ok more = subst (λ (l : List Entry). attribute_entered l (name_of forms.Members) ≡ Ok (front ++ added)) same h ∙ ap (λ (l : List Entry). Ok l) (sym more_is) in
    let named : classes_at c.pool 0 content 0 ≡ Ok names = subst (λ (l : List Entry). classes_at l 0 content 0 ≡ Ok names) same (read_is r (classes_at front 0 content 0) names g is) in
    let nothing = and_parts (not (is_some c.nest_host)) (length c.nest_members == 0) (and_parts (has_no_nest c) (is_ok (declaring c forms.Members content)) may).0 in
    let stands = classes_stand c.pool 0 content 0 names bytes named in
    kept (record c { nest_members = names; pool = more }) (members_built c b forms.Members more entered names stands.0 refl read (not_some c.nest_host nothing.0) stands.1)

pub permits_kept : (c : Class) (front added more : List Entry) (names : List (List ℕ)) (content : List ℕ) (r : Result (List (List ℕ)) ClassFault) → IsBuilt c → IsBytes content → may_have_form c content (Some forms.Permits) ≡ true → names_form c.major forms.Permits (name_of forms.Permits) ≡ true
    → front ≡ c.pool → attribute_entered front (name_of forms.Permits) ≡ Ok (front ++ added) → Gives told (λ x. x) r (classes_at front 0 content 0) → r ≡ Ok names → more ≡ front ++ added
    → Kept (record c { permits = Some names; pool = more })
permits_kept c front added more names content r b bytes may read same h g is more_is =
    let entered : attribute_entered c.pool (name_of forms.Permits) ≡ Ok more = subst (λ (l : List Entry). attribute_entered l (name_of forms.Permits) ≡ Ok (front ++ added)) same h ∙ ap (λ (l : List Entry). Ok l) (sym more_is) in
    let named : classes_at c.pool 0 content 0 ≡ Ok names = subst (λ (l : List Entry). classes_at l 0 content 0 ≡ Ok names) same (read_is r (classes_at front 0 content 0) names g is) in
    let allowed = and_parts (not (is_some c.permits)) (not (is_final c.flags)) (and_parts (not (is_some c.permits) && not (is_final c.flags)) (is_ok (declaring c forms.Permits content)) may).0 in
    let stands = classes_stand c.pool 0 content 0 names bytes named in
    kept (record c { permits = Some names; pool = more }) (permits_built c b forms.Permits more entered names stands.0 refl read (not_true (is_final c.flags) allowed.1) stands.1)

pub named_kept : (c : Class) (front added more : List Entry) (form : AttrForm) → IsBuilt c → front ≡ c.pool → attribute_entered front (name_of form) ≡ Ok (front ++ added) → more ≡ front ++ added → Kept (record c { pool = more })
named_kept c front added more form b same h more_is =
    let entered : attribute_entered c.pool (name_of form) ≡ Ok more = subst (λ (l : List Entry). attribute_entered l (name_of form) ≡ Ok (front ++ added)) same h ∙ ap (λ (l : List Entry). Ok l) (sym more_is) in
    let e = attribute_is_entered c.pool (name_of form) more b.pool (utf8_form form) (short_form form) entered in
    kept (record c { pool = more }) (pool_built c more b e.grown)

not_over : (n : ℕ) → n < 65535 → ltb 65534 n ≡ false
not_over n room = elim (cases_Bool (ltb 65534 n)) [
  | inl t ↦ absurd (let l = ltb-true 65534 n t in omega (arith, l, room))
  | inr f ↦ f
]

-- one attribute more is counted
pub counted_on : (b after : Making) (name content : List ℕ) → b.attributes < 65535 → of_class b (with_read b.class content (attribute_form sites.Class b.class.major name)) ≡ Ok after
    → with_attribute b name content ≡ Ok (record { class = after.class; attributes = after.attributes + 1 })
unfolding with_attribute
counted_on b after name content room h =
    let s = bind_ok (with_read b.class content (attribute_form sites.Class b.class.major name)) (λ c. Ok (record b { class = c })) after h in
    let same : record b { class = s.0 } ≡ after = ok_is (record b { class = s.0 }) after s.2 in
    rw (not_over b.attributes room) (bind_to _ s.1 (ap (λ (m : Making). Ok (record { class = m.class; attributes = m.attributes + 1 })) same))

-- The attributes of a class that are written declare what they are written for.
use Rattle.std.proofs.Common.{◌≡◌, ℕ, ◌+◌, ◌*◌, ◌<◌, ◌≤◌, Bool, true, false, List, [], ◌∷◌, ◌++◌, map, length, Option, None, Some, refl, sym, ap, ap₂, subst, ◌∙◌, append_assoc, Result, Ok, Err, arith, inl, inr}
use Rattle.std.specs.Prelude.{OnOk, is_some, ◌&&◌}
use Rattle.std.specs.List.{flat_map, AllByRecursion}
use Rattle.std.proofs.lemmas.Bool.{cases_Bool}
use Rattle.std.proofs.lemmas.List.{append-nil, length-append, length-map}
use Rattle.std.proofs.lemmas.List.Concat.{flat_map-cons}
use Rattle.jl_logic.specs.Order.{is_text}
use Rattle.jl_reading.specs.Reading.{two, four, counted}
use Rattle.jl_optable.specs.declared.attributes.AttrForm.{AttrForm}
use Rattle.jl_optable.specs.declared.attributes.AttrForm.TheVariants as forms
use Rattle.jl_optable.specs.Attributes.{name_of}
use Rattle.jl_pool.specs.declared.entry.Entry.{Entry}
use Rattle.jl_pool.specs.Pool.{text_of, class_named}
use Rattle.jl_classfile.specs.Spelling.{Attribute, AttributeFits, AreAttributes, AtMostOne, HasName, attribute_bytes, contents, is_some_that}
use Rattle.jl_class.specs.Classes.{Class}
use Rattle.jl_class.specs.Meaning.{is_final}
use Rattle.jl_class.specs.Spelling.{HaveNests, IsHost, AreClasses, names_form, or_nothing}
use Rattle.jl_class.proofs.NestLaws.{form_named, form_other}
use Rattle.jl_classw.proofs.BytesLaws.{counted_mapped}
use Rattle.jl_classw.specs.Writing.{attribute_index, named_attribute, optional, class_index, host_attribute, classes_attribute, nest_attributes, unless_none, IsShortList}
use Rattle.jl_classw.proofs.IndexLaws.{attribute_place, class_place}
use Rattle.jl_classw.proofs.PartLaws.{one_named, some_named, kept_contents, passed_contents, match_written, match_length}

-- ---- lists

contents_both : (pool : List Entry) (is_read : List ℕ → Bool) (a b : List Attribute) → contents pool is_read (a ++ b) ≡ contents pool is_read a ++ contents pool is_read b
contents_both pool is_read [] b = refl
contents_both pool is_read (x ∷ xs) b = elim (cases_Bool (is_some_that is_read (text_of pool x.index))) [
  | inl t ↦ kept_contents pool is_read x (xs ++ b) t ∙ (ap (λ (l : List (List ℕ)). x.content ∷ l) (contents_both pool is_read xs b) ∙ ap (λ (l : List (List ℕ)). l ++ contents pool is_read b) (sym (kept_contents pool is_read x xs t)))
  | inr f ↦ passed_contents pool is_read x (xs ++ b) f ∙ (contents_both pool is_read xs b ∙ ap (λ (l : List (List ℕ)). l ++ contents pool is_read b) (sym (passed_contents pool is_read x xs f)))
]

all_both : {A : Type 0} (P : A → Type 0) (a b : List A) → AllByRecursion P a → AllByRecursion P b → AllByRecursion P (a ++ b)
all_both P [] b h k = k
all_both P (x ∷ xs) b h k = (h.0, all_both P xs b h.1 k)

pub counted_length : (indices : List ℕ) → length (counted two indices) ≡ 2 + 2 * length indices
counted_length [] = refl
counted_length (i ∷ indices) =
    let l = length-append (two i) (flat_map two indices) in
    let m = ap length (flat_map-cons two i indices) in
    let rest = counted_length indices in
    omega (arith, l, m, rest)

abbrev contents_as : {V : Type 0} → (V → List ℕ) → Option V → List (List ℕ)
contents_as content None = []
contents_as content (Some v) = content v ∷ []

-- where something is there, it is the meaning of the first content
abbrev pub There : {V : Type 0} → (List ℕ → V → Type 0) → List (List ℕ) → Option V → Type 0
There {V} M cs o = (v : V) → o ≡ Some v → (c : List ℕ) × (rest : List (List ℕ)) × (cs ≡ c ∷ rest) × M c v

pub there_of : {V : Type 0} (M : List ℕ → V → Type 0) (cs : List (List ℕ)) (o : Option V) → AtMostOne M cs o → There M cs o
there_of M cs None one v e = absurd cc
there_of M cs (Some w) one v e = let same : w ≡ v = cc in (one.0, [], one.1, subst (λ k. M one.0 k) same one.2)

-- members that are none are not written
pub members_there : (M : List ℕ → List (List ℕ) → Type 0) (cs : List (List ℕ)) (members : Option (List (List ℕ))) (names : List (List ℕ)) → names ≡ or_nothing members → AtMostOne M cs members → There M cs (unless_none names)
members_there M cs members [] e one v f = absurd cc
members_there M cs None (n ∷ names) e one v f = absurd cc
members_there M cs (Some list) (n ∷ names) e one v f = let same : n ∷ names ≡ v = cc in (one.0, [], one.1, subst (λ k. M one.0 k) (sym e ∙ same) one.2)

back_list : {A : Type 0} (xs : List A) → xs ≡ or_nothing (unless_none xs)
back_list [] = refl
back_list (x ∷ xs) = refl

-- no more is there than before
pub fewer : (host : Option (List ℕ)) (members : Option (List (List ℕ))) (names : List (List ℕ)) → names ≡ or_nothing members → (is_some host && is_some members) ≡ false → (is_some host && is_some (unless_none names)) ≡ false
fewer None members names e a = refl
fewer (Some h) members [] e a = refl
fewer (Some h) None (n ∷ names) e a = absurd cc
fewer (Some h) (Some list) (n ∷ names) e a = a

module _ (pool : List Entry) (few : length pool < 65536) (major : ℕ) where
  -- one of the attributes, which is there or not
  record Part (form : AttrForm) (written : List Attribute) (cs : List (List ℕ)) : Type 0 where
    fit : AllByRecursion (AttributeFits pool) written
    few_written : length written ≤ 1
    same : contents pool (names_form major form) written ≡ cs
    others : (k : AttrForm) → is_text (name_of form) (name_of k) ≡ false → contents pool (names_form major k) written ≡ []

  part_by : {V : Type 0} (form : AttrForm) (M : List ℕ → V → Type 0) (content : V → List ℕ) (attributes : List Attribute) → AllByRecursion (AttributeFits pool) attributes
      → (o : Option V) → ((v : V) → o ≡ Some v → length (content v) < 4294967296) → There M (contents pool (names_form major form) attributes) o
      → Part form (optional (λ v. named_attribute pool (name_of form) (content v)) o) (contents_as content o)
  part_by form M content attributes fit None short one = record { fit = tt; few_written = omega arith; same = refl; others = λ k differ. refl }
  part_by form M content attributes fit (Some v) short there_one =
      let one = there_one v refl in
      let n = one_named pool (names_form major form) attributes one.0 one.1 fit one.2 in
      let there = some_named (names_form major form) (name_of form) (text_of pool n.0.index) (form_named major form) n.1.named in
      let place = attribute_place pool few (name_of form) n.0.index there in
      let read : names_form major form (name_of form) ≡ true = ap (is_some_that (names_form major form)) (sym there) ∙ n.1.named in
      let a = named_attribute pool (name_of form) (content v) in
      record {
        fit = ((place.1, short v refl, (name_of form, place.0)), tt);
        few_written = omega arith;
        same = kept_contents pool (names_form major form) a [] (ap (is_some_that (names_form major form)) place.0 ∙ read);
        others = λ k differ. passed_contents pool (names_form major k) a [] (ap (is_some_that (names_form major k)) place.0 ∙ form_other major form k differ);
      }

  host_again : (cs : List (List ℕ)) (o : Option (List ℕ)) → There (IsHost pool) cs o → AtMostOne (IsHost pool) (contents_as (λ name. two (class_index pool name)) o) o
  host_again cs None one = refl
  host_again cs (Some name) one = let h : IsHost pool (one name refl).0 name = (one name refl).3 in (two (class_index pool name), refl, (class_index pool name, refl, class_place pool few name h.0 h.2))

  classes_again : (cs : List (List ℕ)) (o : Option (List (List ℕ))) → There (AreClasses pool) cs o → AtMostOne (AreClasses pool) (contents_as (λ names. counted two (map (class_index pool) names)) o) o
  classes_again cs None one = refl
  classes_again cs (Some names) one =
      let a : AreClasses pool (one names refl).0 names = (one names refl).3 in
      let l = length-map names (class_index pool) in
      let m = match_length (HasName (class_named pool)) a.indices names a.each in
      let few_indices = a.few in (
        counted two (map (class_index pool) names),
        refl,
        record {
          indices = map (class_index pool) names;
          is = refl;
          few = omega (arith, l, m, few_indices);
          each = match_written (HasName (class_named pool)) (class_index pool) (λ i name h. class_place pool few name i h) a.indices names a.each;
        },
      )

  classes_short : (cs : List (List ℕ)) (o : Option (List (List ℕ))) → There (AreClasses pool) cs o → (names : List (List ℕ)) → o ≡ Some names → length names < 65536
  classes_short cs o one names e =
      let a : AreClasses pool (one names e).0 names = (one names e).3 in
      let m = match_length (HasName (class_named pool)) a.indices names a.each in
      let few_indices = a.few in
      omega (arith, m, few_indices)

  written_short : (names : List (List ℕ)) → length names < 65536 → length (counted two (map (class_index pool) names)) < 4294967296
  written_short names few_names =
      let l = length-map names (class_index pool) in
      let m = counted_length (map (class_index pool) names) in
      omega (arith, l, m, few_names)

-- What attributes say of a class is written for it, where each part is the meaning of the first of its kind.
pub nests_from : (c : Class) (attributes : List Attribute) → length c.pool < 65536 → AllByRecursion (AttributeFits c.pool) attributes
    → There (IsHost c.pool) (contents c.pool (names_form c.major forms.Host) attributes) c.nest_host
    → There (AreClasses c.pool) (contents c.pool (names_form c.major forms.Members) attributes) (unless_none c.nest_members)
    → There (AreClasses c.pool) (contents c.pool (names_form c.major forms.Permits) attributes) c.permits
    → (is_some c.nest_host && is_some (unless_none c.nest_members)) ≡ false → (is_some c.permits && is_final c.flags) ≡ false
    → AreAttributes c.pool (nest_attributes c.pool c) × HaveNests c (nest_attributes c.pool c)
nests_from c attributes few fit host_there listed_there permits_there apart extended =
    let pool = c.pool in
    let major = c.major in
    let listing : List (List ℕ) → List ℕ = λ names. counted two (map (class_index pool) names) in
    let a = optional (host_attribute pool) c.nest_host in
    let b = optional (classes_attribute pool forms.Members) (unless_none c.nest_members) in
    let d = optional (classes_attribute pool forms.Permits) c.permits in
    let pa = part_by pool few major forms.Host (IsHost pool) (λ name. two (class_index pool name)) attributes fit c.nest_host (λ v e. omega arith) host_there in
    let pb = part_by pool few major forms.Members (AreClasses pool) listing attributes fit (unless_none c.nest_members) (λ v e. written_short pool few major v (classes_short pool few major _ (unless_none c.nest_members) listed_there v e)) listed_there in
    let pd = part_by pool few major forms.Permits (AreClasses pool) listing attributes fit c.permits (λ v e. written_short pool few major v (classes_short pool few major _ c.permits permits_there v e)) permits_there in
    let split : (k : AttrForm) → contents pool (names_form major k) (a ++ (b ++ d)) ≡ contents pool (names_form major k) a ++ (contents pool (names_form major k) b ++ contents pool (names_form major k) d) =
    λ k. contents_both pool (names_form major k) a (b ++ d) ∙ ap (λ (l : List (List ℕ)). contents pool (names_form major k) a ++ l) (contents_both pool (names_form major k) b d) in
    let first : contents pool (names_form major forms.Host) (a ++ (b ++ d)) ≡ contents_as (λ name. two (class_index pool name)) c.nest_host =
    split forms.Host ∙ rw (pa.same, pb.others forms.Host refl, pd.others forms.Host refl) (append-nil _) in
    let second : contents pool (names_form major forms.Members) (a ++ (b ++ d)) ≡ contents_as listing (unless_none c.nest_members) =
    split forms.Members ∙ rw (pa.others forms.Members refl, pb.same, pd.others forms.Members refl) (append-nil _) in
    let third : contents pool (names_form major forms.Permits) (a ++ (b ++ d)) ≡ contents_as listing c.permits =
    split forms.Permits ∙ rw (pa.others forms.Permits refl, pb.others forms.Permits refl, pd.same) refl in
    let none : contents pool (names_form major forms.Components) (a ++ (b ++ d)) ≡ [] =
    split forms.Components ∙ rw (pa.others forms.Components refl, pb.others forms.Components refl, pd.others forms.Components refl) refl in
    let l = length-append a (b ++ d) in
    let m = length-append b d in
    let la = pa.few_written in
    let lb = pb.few_written in
    let ld = pd.few_written in (
      record { few = omega (arith, l, m, la, lb, ld); fit = all_both (AttributeFits pool) a (b ++ d) pa.fit (all_both (AttributeFits pool) b d pb.fit pd.fit) },
      record {
        host = subst (λ cs. AtMostOne (IsHost pool) cs c.nest_host) (sym first) (host_again pool few major _ c.nest_host host_there);
        members = unless_none c.nest_members;
        listed = subst (λ cs. AtMostOne (AreClasses pool) cs (unless_none c.nest_members)) (sym second) (classes_again pool few major _ (unless_none c.nest_members) listed_there);
        members_are = back_list c.nest_members;
        apart = apart;
        record_kept = None;
        components = none;
        permits = subst (λ cs. AtMostOne (AreClasses pool) cs c.permits) (sym third) (classes_again pool few major _ c.permits permits_there);
        extended = extended;
      },
    )

pub nests_written : (c : Class) (attributes : List Attribute) → length c.pool < 65536 → AreAttributes c.pool attributes → HaveNests c attributes → AreAttributes c.pool (nest_attributes c.pool c) × HaveNests c (nest_attributes c.pool c)
nests_written c attributes few are h =
    nests_from c attributes few are.fit
    (there_of (IsHost c.pool) (contents c.pool (names_form c.major forms.Host) attributes) c.nest_host h.host)
    (members_there (AreClasses c.pool) (contents c.pool (names_form c.major forms.Members) attributes) h.members c.nest_members h.members_are h.listed)
    (there_of (AreClasses c.pool) (contents c.pool (names_form c.major forms.Permits) attributes) c.permits h.permits)
    (fewer c.nest_host h.members c.nest_members h.members_are h.apart) h.extended

-- the lists of a class that some file declares fit their counts
pub members_short : (c : Class) (attributes : List Attribute) → length c.pool < 65536 → HaveNests c attributes → length c.nest_members < 65536
members_short c attributes few h = short_by c.nest_members (λ names e. classes_short c.pool few c.major _ (unless_none c.nest_members) (members_there (AreClasses c.pool) (contents c.pool (names_form c.major forms.Members) attributes) h.members c.nest_members h.members_are h.listed) names e)
  where
    short_by : (names : List (List ℕ)) → ((all : List (List ℕ)) → unless_none names ≡ Some all → length all < 65536) → length names < 65536
    short_by [] f = omega arith
    short_by (n ∷ names) f = f (n ∷ names) refl

pub permits_short : (c : Class) (attributes : List Attribute) → length c.pool < 65536 → HaveNests c attributes → IsShortList c.permits
permits_short c attributes few h = short_by c.permits (classes_short c.pool few c.major _ c.permits (there_of (AreClasses c.pool) (contents c.pool (names_form c.major forms.Permits) attributes) c.permits h.permits))
  where
    short_by : (o : Option (List (List ℕ))) → ((names : List (List ℕ)) → o ≡ Some names → length names < 65536) → IsShortList o
    short_by None f = tt
    short_by (Some names) f = f names refl

-- ---- the bytes of an attribute that lists classes

joined : (old index count content : List ℕ) → ((old ++ index) ++ count) ++ content ≡ old ++ (index ++ (count ++ content))
joined old index count content = append_assoc (old ++ index) count content ∙ append_assoc old index (count ++ content)

pub classes_pushed : {A E : Type 0} (r : Result A E) (pool : List Entry) (form : AttrForm) (names : List (List ℕ)) (old first second new : List ℕ)
    → first ≡ old ++ two (attribute_index pool (name_of form)) → second ≡ first ++ four (2 + 2 * length names) → OnOk r (new ≡ second ++ counted (λ name. two (class_index pool name)) names)
    → OnOk r (new ≡ old ++ attribute_bytes (classes_attribute pool form names))
classes_pushed r pool form names old first second new e f h =
    let content = counted two (map (class_index pool) names) in
    let index = two (attribute_index pool (name_of form)) in
    let l = length-map names (class_index pool) in
    let m = counted_length (map (class_index pool) names) in
    let size : length content ≡ 2 + 2 * length names = omega (arith, l, m) in
    let whole : second ++ counted (λ name. two (class_index pool name)) names ≡ old ++ (index ++ (four (length content) ++ content)) =
    ap₂ (λ (a b : List ℕ). a ++ b) (f ∙ ap (λ (a : List ℕ). a ++ four (2 + 2 * length names)) e) (sym (counted_mapped (class_index pool) two names))
    ∙ (joined old index (four (2 + 2 * length names)) content ∙ ap (λ (n : ℕ). old ++ (index ++ (four n ++ content))) (sym size)) in
    on_ok_by r new (second ++ counted (λ name. two (class_index pool name)) names) (old ++ (index ++ (four (length content) ++ content))) whole h
  where
    on_ok_by : {A E : Type 0} (r : Result A E) (new one other : List ℕ) → one ≡ other → OnOk r (new ≡ one) → OnOk r (new ≡ other)
    on_ok_by (Ok x) new one other e h = h ∙ e
    on_ok_by (Err f) new one other e h = tt

-- ---- how many there are

pub count_is : (pool : List Entry) (c : Class) (hosts members permits : ℕ) → hosts ≡ length (optional (host_attribute pool) c.nest_host) → members ≡ length (optional (classes_attribute pool forms.Members) (unless_none c.nest_members))
    → permits ≡ length (optional (classes_attribute pool forms.Permits) c.permits) → hosts + members + permits ≡ length (nest_attributes pool c)
count_is pool c hosts members permits e f g =
    let a = optional (host_attribute pool) c.nest_host in
    let b = optional (classes_attribute pool forms.Members) (unless_none c.nest_members) in
    let d = optional (classes_attribute pool forms.Permits) c.permits in
    let l = length-append a (b ++ d) in
    let m = length-append b d in
    omega (arith, e, f, g, l, m)

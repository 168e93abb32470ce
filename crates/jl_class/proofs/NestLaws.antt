-- The attributes of a class: what is read stands there, and what stands there is read (JVMS 4.7.28 to 4.7.31).
use Rattle.std.proofs.Common.{◌≡◌, ℕ, ◌≤◌, List, [], ◌∷◌, ◌++◌, length, Bool, true, false, not, cond, leb, Option, None, Some, Ok, Err, refl, sym, ap, ◌∙◌, subst, append_assoc}
use Rattle.std.specs.Prelude.{⊤, is_some, ◌&&◌, option_map}
use Rattle.std.specs.List.{AllByRecursion, list_any}
use Rattle.std.proofs.lemmas.Bool.{and_parts, or_parts}
use Rattle.std.proofs.lemmas.List.{append-nil}
use Rattle.jl_logic.specs.Order.{is_text}
use Rattle.jl_reading.specs.Reading.{Stands, IsBytes, number_at, counted}
use Rattle.jl_reading.proofs.Steps.{bind_ok, ok_is, bind_to}
use Rattle.jl_optable.specs.declared.attributes.AttrForm.{AttrForm}
use Rattle.jl_optable.specs.declared.attributes.AttrForm.TheVariants as forms
use Rattle.jl_optable.specs.declared.attributes.Site.TheVariants as sites
use Rattle.jl_optable.specs.Attributes.{attribute_form, first_row, is_for, name_of}
use Rattle.std.specs.Cmp.Lexicographic.{bytes_decides}
use Rattle.jl_pool.specs.declared.entry.Entry.{Entry}
use Rattle.jl_pool.specs.Pool.{text_of}
use Rattle.jl_classfile.specs.Attributes.{attributes_at, first_that, or_else}
use Rattle.jl_classfile.specs.Spelling.{Attribute, AreAttributes, AtMostOne, attribute_bytes, contents, is_some_that}
use Rattle.jl_classfile.proofs.AttributeLaws.{AreRead, Laws, forms_of, attributes_stand, attributes_again}
use Rattle.jl_classfile.proofs.Slots.{Slot, Slots, has_kind, slot_found, slots_read, meant_once, at_most_once, first_that_push}
use Rattle.jl_class.specs.declared.fault.ClassFault.{ClassFault}
use Rattle.jl_class.specs.declared.nests.ClassAttribute.{ClassAttribute}
use Rattle.jl_class.specs.declared.nests.ClassAttribute.TheVariants as attributes
use Rattle.jl_class.specs.declared.nests.Nests.{Nests}
use Rattle.jl_class.specs.Faults.{short}
use Rattle.jl_class.specs.Meaning.{is_final, is_form, keeps_out, may_follow}
use Rattle.jl_class.specs.Spelling.{IsHost, AreClasses, IsRecord, names_form, or_nothing}
use Rattle.jl_class.specs.Reading.{host_at, classes_at, record_at, meaning_at, class_reader, host_in, members_in, permits_in, nests_of, nests_at}
use Rattle.jl_class.proofs.NestContents.{host_stands, host_reads, classes_stand, classes_read, record_stands, record_reads}

-- ---- what contents mean

abbrev pub ClassMeans : List Entry → AttrForm → List ℕ → ClassAttribute → Type 0
ClassMeans pool forms.Host c (attributes.Host name) = IsHost pool c name
ClassMeans pool forms.Members c (attributes.Members names) = AreClasses pool c names
ClassMeans pool forms.Components c attributes.Record = IsRecord pool c tt
ClassMeans pool forms.Permits c (attributes.Permits names) = AreClasses pool c names
ClassMeans pool _ c _ = ⊥

abbrev Meant : List Entry → AttrForm → List ℕ → ℕ → ClassAttribute → Type 0
Meant pool k bytes at v = (content : List ℕ) × ClassMeans pool k content v × Stands bytes at content (length bytes)

not_read : {V : Type 0} {C : Type 0} (f : ClassFault) (v : V) → Err f ≡ Ok v → C
not_read f v e = absurd cc

meaning_stands : (pool : List Entry) (k : AttrForm) (place : ℕ) (bytes : List ℕ) (at : ℕ) (v : ClassAttribute) → IsBytes bytes → at ≤ length bytes → meaning_at pool k place bytes at ≡ Ok v → Meant pool k bytes at v
unfolding meaning_at
meaning_stands pool forms.Host place bytes at v b le e =
    let s = bind_ok (host_at pool place bytes at) _ v e in
    let h = host_stands pool place bytes at s.0 b s.1 in
    subst (Meant pool forms.Host bytes at) (ok_is (attributes.Host s.0) v s.2) (h.0, h.1, h.2)
meaning_stands pool forms.Members place bytes at v b le e =
    let s = bind_ok (classes_at pool place bytes at) _ v e in
    let h = classes_stand pool place bytes at s.0 b s.1 in
    subst (Meant pool forms.Members bytes at) (ok_is (attributes.Members s.0) v s.2) (h.0, h.1, h.2)
meaning_stands pool forms.Components place bytes at v b le e =
    let s = bind_ok (record_at pool place bytes at) _ v e in
    let h = record_stands pool place bytes at tt b (s.1) in
    subst (Meant pool forms.Components bytes at) (ok_is attributes.Record v s.2) (h.0, h.1, h.2)
meaning_stands pool forms.Permits place bytes at v b le e =
    let s = bind_ok (classes_at pool place bytes at) _ v e in
    let h = classes_stand pool place bytes at s.0 b s.1 in
    subst (Meant pool forms.Permits bytes at) (ok_is (attributes.Permits s.0) v s.2) (h.0, h.1, h.2)
meaning_stands pool forms.ConstantIndex place bytes at v b le e = absurd cc
meaning_stands pool forms.CodeBody place bytes at v b le e = absurd cc
meaning_stands pool forms.Frames place bytes at v b le e = absurd cc

meaning_reads : (pool : List Entry) (k : AttrForm) (place : ℕ) (bytes : List ℕ) (at : ℕ) (v : ClassAttribute) (content : List ℕ) → ClassMeans pool k content v → Stands bytes at content (length bytes) → meaning_at pool k place bytes at ≡ Ok v
unfolding meaning_at
meaning_reads pool forms.Host place bytes at (attributes.Host name) content m s = bind_to _ (host_reads pool place bytes at name content m s) refl
meaning_reads pool forms.Members place bytes at (attributes.Members names) content m s = bind_to _ (classes_read pool place bytes at names content m s) refl
meaning_reads pool forms.Components place bytes at attributes.Record content m s = bind_to _ (record_reads pool place bytes at tt content m s) refl
meaning_reads pool forms.Permits place bytes at (attributes.Permits names) content m s = bind_to _ (classes_read pool place bytes at names content m s) refl
meaning_reads pool _ place bytes at _ content m s = absurd m

class_laws : (major flags : ℕ) (pool : List Entry) → Laws (class_reader major flags pool) (ClassMeans pool)
class_laws major flags pool = record { stand = meaning_stands pool; read = meaning_reads pool }

-- ---- what may not follow

not_any : (flags : ℕ) (done : List ClassAttribute) (k : AttrForm) → may_follow flags done k ≡ true → list_any (keeps_out k) done ≡ false
not_any flags done k e = none_of (list_any (keeps_out k) done) (and_parts (not (is_final flags && is_form forms.Permits k)) (not (list_any (keeps_out k) done)) e).1
  where
    none_of : (b : Bool) → not b ≡ true → b ≡ false
    none_of true e = absurd cc
    none_of false e = refl

none_held : {W : Type 0} (k : AttrForm) (pick : ClassAttribute → Option W) → ((v : ClassAttribute) → keeps_out k v ≡ false → pick v ≡ None) → (done : List ClassAttribute) → list_any (keeps_out k) done ≡ false → first_that pick done ≡ None
none_held k pick out [] e = refl
none_held k pick out (v ∷ vs) e =
    let parts = or_parts (keeps_out k v) (list_any (keeps_out k) vs) e in
    rw (out v parts.0) (none_held k pick out vs parts.1)

abbrev record_in : ClassAttribute → Option ⊤
record_in attributes.Record = Some tt
record_in _ = None

-- ---- one form each

host_here : (pool : List Entry) (k : AttrForm) (c : List ℕ) (v : ClassAttribute) → is_form forms.Host k ≡ true → ClassMeans pool k c v → (w : List ℕ) × (host_in v ≡ Some w) × IsHost pool c w
host_here pool forms.Host c (attributes.Host name) e m = (name, refl, m)
host_here pool forms.Host c _ e m = absurd m
host_here pool _ c v e m = absurd cc

host_other : (pool : List Entry) (k : AttrForm) (c : List ℕ) (v : ClassAttribute) → is_form forms.Host k ≡ false → ClassMeans pool k c v → host_in v ≡ None
host_other pool forms.Host c v e m = absurd cc
host_other pool forms.Members c (attributes.Members names) e m = refl
host_other pool forms.Components c attributes.Record e m = refl
host_other pool forms.Permits c (attributes.Permits names) e m = refl
host_other pool _ c _ e m = absurd m

host_out : (v : ClassAttribute) → keeps_out forms.Host v ≡ false → host_in v ≡ None
host_out (attributes.Host name) e = absurd cc
host_out _ e = refl

host_apart : (flags : ℕ) (done : List ClassAttribute) (k : AttrForm) → is_form forms.Host k ≡ true → may_follow flags done k ≡ true → first_that host_in done ≡ None
host_apart flags done forms.Host e may = none_held forms.Host host_in host_out done (not_any flags done forms.Host may)
host_apart flags done _ e may = absurd cc

host_slot : (flags : ℕ) (pool : List Entry) → Slot (ClassMeans pool) (may_follow flags) (is_form forms.Host) host_in (IsHost pool)
host_slot flags pool = record { here = host_here pool; other = host_other pool; apart = host_apart flags }

members_here : (pool : List Entry) (k : AttrForm) (c : List ℕ) (v : ClassAttribute) → is_form forms.Members k ≡ true → ClassMeans pool k c v → (w : List (List ℕ)) × (members_in v ≡ Some w) × AreClasses pool c w
members_here pool forms.Members c (attributes.Members names) e m = (names, refl, m)
members_here pool forms.Members c _ e m = absurd m
members_here pool _ c v e m = absurd cc

members_other : (pool : List Entry) (k : AttrForm) (c : List ℕ) (v : ClassAttribute) → is_form forms.Members k ≡ false → ClassMeans pool k c v → members_in v ≡ None
members_other pool forms.Members c v e m = absurd cc
members_other pool forms.Host c (attributes.Host name) e m = refl
members_other pool forms.Components c attributes.Record e m = refl
members_other pool forms.Permits c (attributes.Permits names) e m = refl
members_other pool _ c _ e m = absurd m

members_out : (v : ClassAttribute) → keeps_out forms.Members v ≡ false → members_in v ≡ None
members_out (attributes.Members names) e = absurd cc
members_out _ e = refl

members_apart : (flags : ℕ) (done : List ClassAttribute) (k : AttrForm) → is_form forms.Members k ≡ true → may_follow flags done k ≡ true → first_that members_in done ≡ None
members_apart flags done forms.Members e may = none_held forms.Members members_in members_out done (not_any flags done forms.Members may)
members_apart flags done _ e may = absurd cc

members_slot : (flags : ℕ) (pool : List Entry) → Slot (ClassMeans pool) (may_follow flags) (is_form forms.Members) members_in (AreClasses pool)
members_slot flags pool = record { here = members_here pool; other = members_other pool; apart = members_apart flags }

record_here : (pool : List Entry) (k : AttrForm) (c : List ℕ) (v : ClassAttribute) → is_form forms.Components k ≡ true → ClassMeans pool k c v → (w : ⊤) × (record_in v ≡ Some w) × IsRecord pool c w
record_here pool forms.Components c attributes.Record e m = (tt, refl, m)
record_here pool forms.Components c _ e m = absurd m
record_here pool _ c v e m = absurd cc

record_other : (pool : List Entry) (k : AttrForm) (c : List ℕ) (v : ClassAttribute) → is_form forms.Components k ≡ false → ClassMeans pool k c v → record_in v ≡ None
record_other pool forms.Components c v e m = absurd cc
record_other pool forms.Host c (attributes.Host name) e m = refl
record_other pool forms.Members c (attributes.Members names) e m = refl
record_other pool forms.Permits c (attributes.Permits names) e m = refl
record_other pool _ c _ e m = absurd m

record_out : (v : ClassAttribute) → keeps_out forms.Components v ≡ false → record_in v ≡ None
record_out attributes.Record e = absurd cc
record_out _ e = refl

record_apart : (flags : ℕ) (done : List ClassAttribute) (k : AttrForm) → is_form forms.Components k ≡ true → may_follow flags done k ≡ true → first_that record_in done ≡ None
record_apart flags done forms.Components e may = none_held forms.Components record_in record_out done (not_any flags done forms.Components may)
record_apart flags done _ e may = absurd cc

record_slot : (flags : ℕ) (pool : List Entry) → Slot (ClassMeans pool) (may_follow flags) (is_form forms.Components) record_in (IsRecord pool)
record_slot flags pool = record { here = record_here pool; other = record_other pool; apart = record_apart flags }

permits_here : (pool : List Entry) (k : AttrForm) (c : List ℕ) (v : ClassAttribute) → is_form forms.Permits k ≡ true → ClassMeans pool k c v → (w : List (List ℕ)) × (permits_in v ≡ Some w) × AreClasses pool c w
permits_here pool forms.Permits c (attributes.Permits names) e m = (names, refl, m)
permits_here pool forms.Permits c _ e m = absurd m
permits_here pool _ c v e m = absurd cc

permits_other : (pool : List Entry) (k : AttrForm) (c : List ℕ) (v : ClassAttribute) → is_form forms.Permits k ≡ false → ClassMeans pool k c v → permits_in v ≡ None
permits_other pool forms.Permits c v e m = absurd cc
permits_other pool forms.Host c (attributes.Host name) e m = refl
permits_other pool forms.Members c (attributes.Members names) e m = refl
permits_other pool forms.Components c attributes.Record e m = refl
permits_other pool _ c _ e m = absurd m

permits_out : (v : ClassAttribute) → keeps_out forms.Permits v ≡ false → permits_in v ≡ None
permits_out (attributes.Permits names) e = absurd cc
permits_out _ e = refl

permits_apart : (flags : ℕ) (done : List ClassAttribute) (k : AttrForm) → is_form forms.Permits k ≡ true → may_follow flags done k ≡ true → first_that permits_in done ≡ None
permits_apart flags done forms.Permits e may = none_held forms.Permits permits_in permits_out done (not_any flags done forms.Permits may)
permits_apart flags done _ e may = absurd cc

permits_slot : (flags : ℕ) (pool : List Entry) → Slot (ClassMeans pool) (may_follow flags) (is_form forms.Permits) permits_in (AreClasses pool)
permits_slot flags pool = record { here = permits_here pool; other = permits_other pool; apart = permits_apart flags }

-- ---- together

-- a host or members, not both
abbrev pub Apart : List ClassAttribute → Type 0
Apart vs = is_some (first_that host_in vs) && is_some (first_that members_in vs) ≡ false

pushed : {W : Type 0} (pick : ClassAttribute → Option W) (done : List ClassAttribute) (v : ClassAttribute) (o : Option W) → first_that pick done ≡ o → pick v ≡ None → first_that pick (done ++ v ∷ []) ≡ o
pushed pick done v o e n = first_that_push pick done v ∙ ap (λ w. or_else (first_that pick done) w) n ∙ or_none (first_that pick done) ∙ e
  where
    or_none : {W : Type 0} (o : Option W) → or_else o None ≡ o
    or_none None = refl
    or_none (Some w) = refl

still_apart : (done more : List ClassAttribute) → first_that host_in more ≡ first_that host_in done → first_that members_in more ≡ first_that members_in done → Apart done → Apart more
still_apart done more h m a = ap (λ o. is_some o && is_some (first_that members_in more)) h ∙ ap (λ o. is_some (first_that host_in done) && is_some o) m ∙ a

no_members : (more : List ClassAttribute) → first_that members_in more ≡ None → Apart more
no_members more e = ap (λ o. is_some (first_that host_in more) && is_some o) e ∙ and_no (is_some (first_that host_in more))
  where
    and_no : (b : Bool) → (b && false) ≡ false
    and_no true = refl
    and_no false = refl

no_host : (more : List ClassAttribute) → first_that host_in more ≡ None → Apart more
no_host more e = ap (λ o. is_some o && is_some (first_that members_in more)) e

members_out_of_host : (v : ClassAttribute) → keeps_out forms.Host v ≡ false → members_in v ≡ None
members_out_of_host (attributes.Members names) e = absurd cc
members_out_of_host _ e = refl

host_out_of_members : (v : ClassAttribute) → keeps_out forms.Members v ≡ false → host_in v ≡ None
host_out_of_members (attributes.Host name) e = absurd cc
host_out_of_members _ e = refl

-- what was read of a form is of that form
abbrev pub IsOf : AttrForm → ClassAttribute → Type 0
IsOf forms.Host (attributes.Host name) = ⊤
IsOf forms.Members (attributes.Members names) = ⊤
IsOf forms.Components attributes.Record = ⊤
IsOf forms.Permits (attributes.Permits names) = ⊤
IsOf _ _ = ⊥

means_of : (pool : List Entry) (k : AttrForm) (c : List ℕ) (v : ClassAttribute) → ClassMeans pool k c v → IsOf k v
means_of pool forms.Host c (attributes.Host name) m = tt
means_of pool forms.Members c (attributes.Members names) m = tt
means_of pool forms.Components c attributes.Record m = tt
means_of pool forms.Permits c (attributes.Permits names) m = tt
means_of pool _ c _ m = absurd m

pub meaning_of : (pool : List Entry) (k : AttrForm) (place : ℕ) (bytes : List ℕ) (at : ℕ) (v : ClassAttribute) → meaning_at pool k place bytes at ≡ Ok v → IsOf k v
unfolding meaning_at
meaning_of pool forms.Host place bytes at v e = let s = bind_ok (host_at pool place bytes at) _ v e in subst (IsOf forms.Host) (ok_is (attributes.Host s.0) v s.2) tt
meaning_of pool forms.Members place bytes at v e = let s = bind_ok (classes_at pool place bytes at) _ v e in subst (IsOf forms.Members) (ok_is (attributes.Members s.0) v s.2) tt
meaning_of pool forms.Components place bytes at v e = let s = bind_ok (record_at pool place bytes at) _ v e in subst (IsOf forms.Components) (ok_is attributes.Record v s.2) tt
meaning_of pool forms.Permits place bytes at v e = let s = bind_ok (classes_at pool place bytes at) _ v e in subst (IsOf forms.Permits) (ok_is (attributes.Permits s.0) v s.2) tt
meaning_of pool forms.ConstantIndex place bytes at v e = absurd cc
meaning_of pool forms.CodeBody place bytes at v e = absurd cc
meaning_of pool forms.Frames place bytes at v e = absurd cc

pub apart_step : (flags : ℕ) (done : List ClassAttribute) (k : AttrForm) (v : ClassAttribute) → may_follow flags done k ≡ true → IsOf k v → Apart done → Apart (done ++ v ∷ [])
apart_step flags done forms.Host (attributes.Host name) may m a =
    no_members (done ++ attributes.Host name ∷ []) (pushed members_in done (attributes.Host name) None (none_held forms.Host members_in members_out_of_host done (not_any flags done forms.Host may)) refl)
apart_step flags done forms.Members (attributes.Members names) may m a =
    no_host (done ++ attributes.Members names ∷ []) (pushed host_in done (attributes.Members names) None (none_held forms.Members host_in host_out_of_members done (not_any flags done forms.Members may)) refl)
apart_step flags done forms.Components attributes.Record may m a = still_apart done (done ++ attributes.Record ∷ []) (pushed host_in done attributes.Record _ refl refl) (pushed members_in done attributes.Record _ refl refl) a
apart_step flags done forms.Permits (attributes.Permits names) may m a = still_apart done (done ++ attributes.Permits names ∷ []) (pushed host_in done (attributes.Permits names) _ refl refl) (pushed members_in done (attributes.Permits names) _ refl refl) a
apart_step flags done _ _ may m a = absurd m

all_apart : (flags : ℕ) (pool : List Entry) (ps : List (AttrForm × List ℕ)) (done vs : List ClassAttribute) → AreRead (ClassMeans pool) (may_follow flags) done ps vs → Apart done → Apart (done ++ vs)
all_apart flags pool [] done [] read a = subst Apart (sym (append-nil done)) a
all_apart flags pool [] done (v ∷ vs) read a = absurd read
all_apart flags pool (p ∷ ps) done [] read a = absurd read
all_apart flags pool (p ∷ ps) done (v ∷ vs) read a =
    subst Apart (append_assoc done (v ∷ []) vs) (all_apart flags pool ps (done ++ v ∷ []) vs read.2 (apart_step flags done p.0 v read.0 (means_of pool p.0 p.1 v read.1) a))

-- nobody is permitted to extend a final class
abbrev Open : Bool → List ClassAttribute → Type 0
Open final vs = is_some (first_that permits_in vs) && final ≡ false

open_step : (flags : ℕ) (pool : List Entry) (done : List ClassAttribute) (k : AttrForm) (c : List ℕ) (v : ClassAttribute) → may_follow flags done k ≡ true → ClassMeans pool k c v → Open (is_final flags) done → Open (is_final flags) (done ++ v ∷ [])
open_step flags pool done forms.Permits c (attributes.Permits names) may m a =
    closed (is_final flags) (is_some (first_that permits_in (done ++ attributes.Permits names ∷ []))) (and_parts (not (is_final flags && true)) (not (list_any (keeps_out forms.Permits) done)) may).0
  where
    closed : (final some : Bool) → not (final && true) ≡ true → (some && final) ≡ false
    closed true some e = absurd cc
    closed false true e = refl
    closed false false e = refl
open_step flags pool done forms.Host c (attributes.Host name) may m a = ap (λ o. is_some o && is_final flags) (pushed permits_in done (attributes.Host name) _ refl refl) ∙ a
open_step flags pool done forms.Members c (attributes.Members names) may m a = ap (λ o. is_some o && is_final flags) (pushed permits_in done (attributes.Members names) _ refl refl) ∙ a
open_step flags pool done forms.Components c attributes.Record may m a = ap (λ o. is_some o && is_final flags) (pushed permits_in done attributes.Record _ refl refl) ∙ a
open_step flags pool done _ c _ may m a = absurd m

all_open : (flags : ℕ) (pool : List Entry) (ps : List (AttrForm × List ℕ)) (done vs : List ClassAttribute) → AreRead (ClassMeans pool) (may_follow flags) done ps vs → Open (is_final flags) done → Open (is_final flags) (done ++ vs)
all_open flags pool [] done [] read a = subst (Open (is_final flags)) (sym (append-nil done)) a
all_open flags pool [] done (v ∷ vs) read a = absurd read
all_open flags pool (p ∷ ps) done [] read a = absurd read
all_open flags pool (p ∷ ps) done (v ∷ vs) read a =
    subst (Open (is_final flags)) (append_assoc done (v ∷ []) vs) (all_open flags pool ps (done ++ v ∷ []) vs read.2 (open_step flags pool done p.0 p.1 v read.0 read.1 a))

-- ---- what is read stands there

abbrev slots_of : List ClassAttribute → Nests
slots_of vs = nests_of vs

-- the nests of a class with these parts
pub record NestParts (major flags : ℕ) (pool : List Entry) (others : List Attribute) (n : Nests) : Type 0 where
  pub host : AtMostOne (IsHost pool) (contents pool (names_form major forms.Host) others) n.host
  pub members : Option (List (List ℕ))
  pub listed : AtMostOne (AreClasses pool) (contents pool (names_form major forms.Members) others) members
  pub members_are : n.members ≡ or_nothing members
  pub apart : is_some n.host && is_some members ≡ false
  pub record_kept : Option ⊤
  pub components : AtMostOne (IsRecord pool) (contents pool (names_form major forms.Components) others) record_kept
  pub permits : AtMostOne (AreClasses pool) (contents pool (names_form major forms.Permits) others) n.permits
  pub extended : is_some n.permits && is_final flags ≡ false

pub record NestsStand (major flags : ℕ) (pool : List Entry) (bytes : List ℕ) (at : ℕ) (x : Nests × ℕ) : Type 0 where
  pub attributes : List Attribute
  pub are : AreAttributes pool attributes
  pub stands : Stands bytes at (counted attribute_bytes attributes) x.1
  pub parts : NestParts major flags pool attributes x.0

pub nests_stand : (major flags : ℕ) (pool : List Entry) (bytes : List ℕ) (at : ℕ) (x : Nests × ℕ) → IsBytes bytes → nests_at major flags pool bytes at ≡ Ok x → NestsStand major flags pool bytes at x
unfolding nests_at
nests_stand major flags pool bytes at x b e =
    let r = class_reader major flags pool in
    let s1 = bind_ok (number_at short 2 bytes at) _ x e in
    let s2 = bind_ok (attributes_at r pool s1.0.0 bytes s1.0.1) _ x s1.2 in
    let vs = s2.0.0 in
    let a = attributes_stand short r (ClassMeans pool) (class_laws major flags pool) pool bytes at s1.0 s2.0 b s1.1 s2.1 in
    let form = attribute_form sites.Class major in
    subst (NestsStand major flags pool bytes at) (ok_is _ _ s2.2) (record {
      attributes = a.attributes;
      are = a.are;
      stands = a.stands;
      parts = record {
        host = slot_found (ClassMeans pool) (may_follow flags) (is_form forms.Host) host_in (IsHost pool) (host_slot flags pool) form pool a.attributes vs a.read;
        members = first_that members_in vs;
        listed = slot_found (ClassMeans pool) (may_follow flags) (is_form forms.Members) members_in (AreClasses pool) (members_slot flags pool) form pool a.attributes vs a.read;
        members_are = refl;
        apart = all_apart flags pool (forms_of form pool a.attributes) [] vs a.read refl;
        record_kept = first_that record_in vs;
        components = slot_found (ClassMeans pool) (may_follow flags) (is_form forms.Components) record_in (IsRecord pool) (record_slot flags pool) form pool a.attributes vs a.read;
        permits = slot_found (ClassMeans pool) (may_follow flags) (is_form forms.Permits) permits_in (AreClasses pool) (permits_slot flags pool) form pool a.attributes vs a.read;
        extended = all_open flags pool (forms_of form pool a.attributes) [] vs a.read refl;
      };
    })

-- ---- what stands there is read

pub kind_of : ClassAttribute → AttrForm
kind_of (attributes.Host name) = forms.Host
kind_of (attributes.Members names) = forms.Members
kind_of attributes.Record = forms.Components
kind_of (attributes.Permits names) = forms.Permits

abbrev pub slot_by : Option (List ℕ) → Option (List (List ℕ)) → Option ⊤ → Option (List (List ℕ)) → AttrForm → Option ClassAttribute
slot_by host members kept permits forms.Host = option_map (λ n. attributes.Host n) host
slot_by host members kept permits forms.Members = option_map (λ ns. attributes.Members ns) members
slot_by host members kept permits forms.Components = option_map (λ u. attributes.Record) kept
slot_by host members kept permits forms.Permits = option_map (λ ns. attributes.Permits ns) permits
slot_by host members kept permits _ = None

mapped : {W : Type 0} (N : List ℕ → W → Type 0) (M : List ℕ → ClassAttribute → Type 0) (made : W → ClassAttribute) → ((c : List ℕ) (w : W) → N c w → M c (made w)) → (cs : List (List ℕ)) (o : Option W) → AtMostOne N cs o → AtMostOne M cs (option_map made o)
mapped N M made same cs None one = one
mapped N M made same cs (Some w) one = (one.0, one.1, same one.0 w one.2)

passed_by : (pool : List Entry) (is_read : List ℕ → Bool) → ((name : List ℕ) → is_read name ≡ false) → (a : Attribute) (others : List Attribute) (o : Option (List ℕ)) → text_of pool a.index ≡ o
    → contents pool is_read others ≡ [] → contents pool is_read (a ∷ others) ≡ []
passed_by pool is_read out a others None e h = rw e h
passed_by pool is_read out a others (Some name) e h = rw (e, out name) h

none_of : (pool : List Entry) (is_read : List ℕ → Bool) → ((name : List ℕ) → is_read name ≡ false) → (all : List Attribute) → contents pool is_read all ≡ []
none_of pool is_read out [] = refl
none_of pool is_read out (a ∷ others) = passed_by pool is_read out a others (text_of pool a.index) refl (none_of pool is_read out others)

-- the forms of attributes of a class
abbrev one_of_four : Bool → Bool → Bool → Bool → Option AttrForm
one_of_four host members components permits = cond host (Some forms.Host) (cond members (Some forms.Members) (cond components (Some forms.Components) (cond permits (Some forms.Permits) None)))

abbrev IsOther : AttrForm → Type 0
IsOther k = (is_form k forms.Host ≡ false) × (is_form k forms.Members ≡ false) × (is_form k forms.Components ≡ false) × (is_form k forms.Permits ≡ false)

never_by : (k : AttrForm) → IsOther k → (a b c d : Bool) → is_some_that (is_form k) (one_of_four a b c d) ≡ false
never_by k other true b c d = other.0
never_by k other false true c d = other.1
never_by k other false false true d = other.2
never_by k other false false false true = other.3
never_by k other false false false false = refl

never : (k : AttrForm) → IsOther k → (major : ℕ) (name : List ℕ) → names_form major k name ≡ false
unfolding first_row
never k other major name =
    never_by k other (is_for sites.Class major name (record { site = sites.Class; major = 55; form = forms.Host })) (is_for sites.Class major name (record { site = sites.Class; major = 55; form = forms.Members }))
    (is_for sites.Class major name (record { site = sites.Class; major = 60; form = forms.Components })) (is_for sites.Class major name (record { site = sites.Class; major = 61; form = forms.Permits }))

no_other : (major : ℕ) (pool : List Entry) (all : List Attribute) (k : AttrForm) → IsOther k → contents pool (names_form major k) all ≡ []
no_other major pool all k other = none_of pool (names_form major k) (never k other major) all

each_slot : (major flags : ℕ) (pool : List Entry) (all : List Attribute) (n : Nests) (p : NestParts major flags pool all n) (k : AttrForm)
    → AtMostOne (ClassMeans pool k) (contents pool (names_form major k) all) (slot_by n.host p.members p.record_kept n.permits k)
each_slot major flags pool all n p forms.Host = mapped (IsHost pool) (ClassMeans pool forms.Host) (λ w. attributes.Host w) (λ c w m. m) _ n.host p.host
each_slot major flags pool all n p forms.Members = mapped (AreClasses pool) (ClassMeans pool forms.Members) (λ w. attributes.Members w) (λ c w m. m) _ p.members p.listed
each_slot major flags pool all n p forms.Components = mapped (IsRecord pool) (ClassMeans pool forms.Components) (λ u. attributes.Record) (λ c w m. m) _ p.record_kept p.components
each_slot major flags pool all n p forms.Permits = mapped (AreClasses pool) (ClassMeans pool forms.Permits) (λ w. attributes.Permits w) (λ c w m. m) _ n.permits p.permits
each_slot major flags pool all n p forms.ConstantIndex = no_other major pool all forms.ConstantIndex (refl, refl, refl, refl)
each_slot major flags pool all n p forms.CodeBody = no_other major pool all forms.CodeBody (refl, refl, refl, refl)
each_slot major flags pool all n p forms.Frames = no_other major pool all forms.Frames (refl, refl, refl, refl)

form_is : (j k : AttrForm) → is_form j k ≡ true → j ≡ k
form_is forms.ConstantIndex forms.ConstantIndex e = refl
form_is forms.CodeBody forms.CodeBody e = refl
form_is forms.Frames forms.Frames e = refl
form_is forms.Host forms.Host e = refl
form_is forms.Members forms.Members e = refl
form_is forms.Components forms.Components e = refl
form_is forms.Permits forms.Permits e = refl
form_is _ _ e = absurd cc

form_self : (k : AttrForm) → is_form k k ≡ true
form_self forms.ConstantIndex = refl
form_self forms.CodeBody = refl
form_self forms.Frames = refl
form_self forms.Host = refl
form_self forms.Members = refl
form_self forms.Components = refl
form_self forms.Permits = refl

kinds : (pool : List Entry) (k : AttrForm) (c : List ℕ) (v : ClassAttribute) → ClassMeans pool k c v → kind_of v ≡ k
unfolding kind_of
kinds pool forms.Host c (attributes.Host name) m = refl
kinds pool forms.Members c (attributes.Members names) m = refl
kinds pool forms.Components c attributes.Record m = refl
kinds pool forms.Permits c (attributes.Permits names) m = refl
kinds pool _ c _ m = absurd m

some_map : {W : Type 0} (made : W → ClassAttribute) (o : Option W) (v : ClassAttribute) → option_map made o ≡ Some v → is_some o ≡ true
some_map made None v e = absurd cc
some_map made (Some w) v e = refl

not_both : (a b : Bool) → (a && b) ≡ false → a ≡ true → b ≡ true → ⊥
not_both true true e p q = absurd cc
not_both true false e p q = absurd cc
not_both false b e p q = absurd cc

either : (b c : Bool) → cond b true c ≡ false → (b ≡ false) × (c ≡ false)
either true c e = absurd cc
either false c e = (refl, e)

none_keeps : (k : AttrForm) (P : ClassAttribute → Type 0) → ((w : ClassAttribute) → P w → is_form k (kind_of w) ≡ false → keeps_out k w ≡ false) → (done : List ClassAttribute) → AllByRecursion P done → has_kind (is_form k) kind_of done ≡ false
    → list_any (keeps_out k) done ≡ false
none_keeps k P out [] all has = refl
none_keeps k P out (w ∷ ws) all has =
    let n = either (is_form k (kind_of w)) (has_kind (is_form k) kind_of ws) has in
    rw (out w all.0 n.0) (none_keeps k P out ws all.1 n.1)

may_by : (a b : Bool) → a ≡ false → b ≡ false → (not a && not b) ≡ true
may_by a b e f = rw (e, f) refl

and_no : (b : Bool) → (b && false) ≡ false
and_no true = refl
and_no false = refl

module _ (flags : ℕ) (pool : List Entry) (host : Option (List ℕ)) (members : Option (List (List ℕ))) (kept : Option ⊤) (permits : Option (List (List ℕ)))
    (apart : is_some host && is_some members ≡ false) (extended : is_some permits && is_final flags ≡ false) where
  abbrev slot : AttrForm → Option ClassAttribute
  slot = slot_by host members kept permits

  abbrev Keeps : ClassAttribute → Type 0
  Keeps w = slot (kind_of w) ≡ Some w

  beside_host : is_some host ≡ true → (w : ClassAttribute) → Keeps w → is_form forms.Host (kind_of w) ≡ false → keeps_out forms.Host w ≡ false
  unfolding kind_of
  beside_host some (attributes.Host name) k e = absurd cc
  beside_host some (attributes.Members names) k e = absurd (not_both (is_some host) (is_some members) apart some (some_map (λ ns. attributes.Members ns) members (attributes.Members names) k))
  beside_host some attributes.Record k e = refl
  beside_host some (attributes.Permits names) k e = refl

  beside_members : is_some members ≡ true → (w : ClassAttribute) → Keeps w → is_form forms.Members (kind_of w) ≡ false → keeps_out forms.Members w ≡ false
  unfolding kind_of
  beside_members some (attributes.Members names) k e = absurd cc
  beside_members some (attributes.Host name) k e = absurd (not_both (is_some host) (is_some members) apart (some_map (λ n. attributes.Host n) host (attributes.Host name) k) some)
  beside_members some attributes.Record k e = refl
  beside_members some (attributes.Permits names) k e = refl

  beside_record : (w : ClassAttribute) → Keeps w → is_form forms.Components (kind_of w) ≡ false → keeps_out forms.Components w ≡ false
  unfolding kind_of
  beside_record attributes.Record k e = absurd cc
  beside_record (attributes.Host name) k e = refl
  beside_record (attributes.Members names) k e = refl
  beside_record (attributes.Permits names) k e = refl

  beside_permits : (w : ClassAttribute) → Keeps w → is_form forms.Permits (kind_of w) ≡ false → keeps_out forms.Permits w ≡ false
  unfolding kind_of
  beside_permits (attributes.Permits names) k e = absurd cc
  beside_permits (attributes.Host name) k e = refl
  beside_permits (attributes.Members names) k e = refl
  beside_permits attributes.Record k e = refl

  allowed : (done : List ClassAttribute) (k : AttrForm) (v : ClassAttribute) → slot k ≡ Some v → AllByRecursion Keeps done → has_kind (is_form k) kind_of done ≡ false → may_follow flags done k ≡ true
  allowed done forms.Host v e all has = may_by _ _ (and_no (is_final flags)) (none_keeps forms.Host Keeps (beside_host (some_map (λ n. attributes.Host n) host v e)) done all has)
  allowed done forms.Members v e all has = may_by _ _ (and_no (is_final flags)) (none_keeps forms.Members Keeps (beside_members (some_map (λ ns. attributes.Members ns) members v e)) done all has)
  allowed done forms.Components v e all has = may_by _ _ (and_no (is_final flags)) (none_keeps forms.Components Keeps beside_record done all has)
  allowed done forms.Permits v e all has =
      may_by _ _ (opened (is_final flags) (not_both (is_some permits) (is_final flags) extended (some_map (λ ns. attributes.Permits ns) permits v e))) (none_keeps forms.Permits Keeps beside_permits done all has)
    where
      opened : (b : Bool) → (b ≡ true → ⊥) → (b && true) ≡ false
      opened true h = absurd (h refl)
      opened false h = refl
  allowed done forms.ConstantIndex v e all has = absurd cc
  allowed done forms.CodeBody v e all has = absurd cc
  allowed done forms.Frames v e all has = absurd cc

  pub class_slots : Slots (ClassMeans pool) (may_follow flags) is_form kind_of slot
  class_slots = record { same_is = form_is; same_self = form_self; kinds = kinds pool; allowed = allowed }

abbrev let_some : {W : Type 0} → W → Option W
let_some w = Some w

some_is : {W : Type 0} (v w : W) → let_some v ≡ let_some w → v ≡ w
some_is v w e = cc

same_nests : (a b : Nests) → a.host ≡ b.host → a.members ≡ b.members → a.permits ≡ b.permits → a ≡ b
same_nests a b h m p = λ i. record { host = h i; members = m i; permits = p i }

pub nests_again : (major flags : ℕ) (pool : List Entry) (bytes : List ℕ) (at next : ℕ) (all : List Attribute) (n : Nests) → NestParts major flags pool all n → AreAttributes pool all → Stands bytes at (counted attribute_bytes all) next
    → nests_at major flags pool bytes at ≡ Ok (n, next)
unfolding nests_at
nests_again major flags pool bytes at next all n p are s =
    let r = class_reader major flags pool in
    let laws = class_laws major flags pool in
    let form = attribute_form sites.Class major in
    let may = may_follow flags in
    let read = slots_read (ClassMeans pool) may is_form kind_of (slot_by n.host p.members p.record_kept n.permits) (class_slots flags pool n.host p.members p.record_kept n.permits p.apart p.extended) form pool all (each_slot major flags pool all n p) in
    let t = attributes_again short r (ClassMeans pool) laws pool bytes at next all read.0 are read.1 s in
    let host_once : (c v w : List ℕ) → IsHost pool c v → IsHost pool c w → v ≡ w = λ c v w a b. some_is v w (ap host_in (meant_once r (ClassMeans pool) laws forms.Host c (attributes.Host v) (attributes.Host w) a b)) in
    let classes_once : (c : List ℕ) (v w : List (List ℕ)) → AreClasses pool c v → AreClasses pool c w → v ≡ w =
    λ c v w a b. some_is v w (ap members_in (meant_once r (ClassMeans pool) laws forms.Members c (attributes.Members v) (attributes.Members w) a b)) in
    let host = at_most_once (IsHost pool) host_once _ (first_that host_in read.0) n.host (slot_found (ClassMeans pool) may (is_form forms.Host) host_in (IsHost pool) (host_slot flags pool) form pool all read.0 read.1) p.host in
    let members = at_most_once (AreClasses pool) classes_once _ (first_that members_in read.0) p.members (slot_found (ClassMeans pool) may (is_form forms.Members) members_in (AreClasses pool) (members_slot flags pool) form pool all read.0 read.1) p.listed in
    let permits = at_most_once (AreClasses pool) classes_once _ (first_that permits_in read.0) n.permits (slot_found (ClassMeans pool) may (is_form forms.Permits) permits_in (AreClasses pool) (permits_slot flags pool) form pool all read.0 read.1) p.permits in
    let same : nests_of read.0 ≡ n = same_nests (nests_of read.0) n host (ap or_nothing members ∙ sym p.members_are) permits in
    bind_to _ t.0 (bind_to _ t.1 (ap (λ k. Ok (k, next)) same))

-- ---- the names of forms

row_named : (major from : ℕ) (form : AttrForm) (text : List ℕ) → is_for sites.Class major text (record { site = sites.Class; major = from; form = form }) ≡ true → text ≡ name_of form
row_named major from form text e = sym ((bytes_decides (name_of form) text).0 (and_parts (leb from major) (is_text (name_of form) text) e).1)

named_by : {C : Type 0} (k : AttrForm) (a b c d : Bool) → is_some_that (is_form k) (one_of_four a b c d) ≡ true → (forms.Host ≡ k → a ≡ true → C) → (forms.Members ≡ k → b ≡ true → C) → (forms.Components ≡ k → c ≡ true → C) → (forms.Permits ≡ k → d ≡ true → C) → C
named_by k true b c d e f g h i = f (sym (form_is k forms.Host e)) refl
named_by k false true c d e f g h i = g (sym (form_is k forms.Members e)) refl
named_by k false false true d e f g h i = h (sym (form_is k forms.Components e)) refl
named_by k false false false true e f g h i = i (sym (form_is k forms.Permits e)) refl
named_by k false false false false e f g h i = absurd cc

-- attributes of a form have its name
pub form_named : (major : ℕ) (k : AttrForm) (text : List ℕ) → names_form major k text ≡ true → text ≡ name_of k
unfolding first_row
form_named major k text e =
    named_by k (is_for sites.Class major text (record { site = sites.Class; major = 55; form = forms.Host })) (is_for sites.Class major text (record { site = sites.Class; major = 55; form = forms.Members }))
    (is_for sites.Class major text (record { site = sites.Class; major = 60; form = forms.Components })) (is_for sites.Class major text (record { site = sites.Class; major = 61; form = forms.Permits })) e
    (λ same is. row_named major 55 forms.Host text is ∙ ap name_of same)
    (λ same is. row_named major 55 forms.Members text is ∙ ap name_of same)
    (λ same is. row_named major 60 forms.Components text is ∙ ap name_of same)
    (λ same is. row_named major 61 forms.Permits text is ∙ ap name_of same)

-- a name of another form
pub form_other : (major : ℕ) (j k : AttrForm) → is_text (name_of j) (name_of k) ≡ false → names_form major k (name_of j) ≡ false
form_other major j k differ = other_by (names_form major k (name_of j)) refl
  where
    other_by : (b : Bool) → names_form major k (name_of j) ≡ b → b ≡ false
    other_by false e = refl
    other_by true e = absurd (let same : is_text (name_of j) (name_of k) ≡ true = (bytes_decides (name_of j) (name_of k)).1 (form_named major k (name_of j) e) in cc)
